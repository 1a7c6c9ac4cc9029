use native.Mathlib.Omega.{arith}
use Rattle.queue.proofs.Turns.{back_first, back_turn, back_last}
use Rattle.queue.proofs.slides.slide_back.Goals as goal

pub loop-j-init : goal.loop-j-init
loop-j-init c =
    back_first _ _ _ _ c.requires.0 c.requires.1

pub loop-j-preserved : goal.loop-j-preserved
loop-j-preserved c =
    back_turn _ _ (omega arith) c.loop-j-test.true c.loop-j.invariant

pub returns : goal.returns
returns c =
    back_last _ c.loop-j-test.false c.loop-j.invariant
