use Rattle.rules.specs.Ready.{with_level}
use Rattle.table.proofs.levels.with_level.Goals as goal

pub returns : goal.returns
unfolding with_level
returns c =
    cc
