use native.Mathlib.Omega.{arith}
use Rattle.queue.proofs.Place.{seek_more, seek_found, seek_free, seek_ended}
use Rattle.queue.proofs.slides.find_packed.Goals as goal

pub returns-then-slot-v : goal.returns-then-slot-v
returns-then-slot-v c =
    seek_found _ _ _ (omega arith) c.loop-i.invariant c.if-slot-v.true

pub returns-then-slot-eq0 : goal.returns-then-slot-eq0
returns-then-slot-eq0 c =
    seek_free _ _ c.loop-i.i (omega arith) c.loop-i.invariant c.if-slot-v.false c.if-slot-eq0.true

pub loop-i-preserved : goal.loop-i-preserved
loop-i-preserved c =
    seek_more _ _ _ (omega arith) c.loop-i.invariant c.if-slot-v.false c.if-slot-eq0.false

pub returns : goal.returns
returns c =
    omega (arith, seek_ended _ _ _ (omega arith) c.loop-i.invariant)
