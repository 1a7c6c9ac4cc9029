use Rattle.rules.specs.Ready.{without_level}
use Rattle.table.proofs.levels.without_level.Goals as goal

pub returns : goal.returns
unfolding without_level
returns c =
    cc
