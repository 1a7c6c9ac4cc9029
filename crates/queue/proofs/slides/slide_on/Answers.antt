use Rattle.queue.proofs.Turns.{on_first, on_turn, on_last}
use Rattle.queue.proofs.slides.slide_on.Goals as goal

pub loop-j-init : goal.loop-j-init
loop-j-init c =
    on_first _ _ _ _ c.requires.0 c.requires.1

pub loop-j-preserved : goal.loop-j-preserved
loop-j-preserved c =
    on_turn c.loop-j-test.true c.loop-j.invariant

pub returns : goal.returns
returns c =
    on_last c.loop-j-test.false c.loop-j.invariant
