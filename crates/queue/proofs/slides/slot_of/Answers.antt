use native.Mathlib.Omega.{arith}
use borrow.Author.Tests.{eq-eqb, ne_eqb}
use Rattle.queue.specs.Slots.{same}
use Rattle.queue.proofs.Scan.{scan_more, scan_found, scan_ended}
use Rattle.queue.proofs.slides.slot_of.Goals as goal

pub returns-then-slot-v : goal.returns-then-slot-v
returns-then-slot-v c =
    let a = c.args in
    scan_found (same a.v) a.ids.now _ (omega arith) c.loop-i.invariant (eq-eqb _ _ c.if-slot-v.true)

pub loop-i-preserved : goal.loop-i-preserved
loop-i-preserved c =
    let a = c.args in
    scan_more (same a.v) a.ids.now _ (omega arith) c.loop-i.invariant (ne_eqb _ _ c.if-slot-v.false)

pub returns : goal.returns
returns c =
    let a = c.args in
    omega (arith, scan_ended (same a.v) a.ids.now _ (omega arith) c.loop-i.invariant)
