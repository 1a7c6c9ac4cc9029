use Rattle.rules.specs.Ready.{first_level}
use Rattle.table.proofs.levels.first_level.Goals as goal

pub returns : goal.returns
unfolding first_level
returns c =
    cc
