use Rattle.rules.specs.Tick.{ticked}
use Rattle.tick.proofs.tick_once.Goals as goal

pub returns : goal.returns
unfolding ticked
returns c =
    cc
