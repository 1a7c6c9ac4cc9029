use Rattle.rules.specs.Ready.{ready_with}
use Rattle.table.proofs.levels.add_level.Goals as goal

pub returns : goal.returns
unfolding ready_with
returns c =
    cc
