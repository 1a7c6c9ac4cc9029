use native.Mathlib.Omega.{arith}
use Rattle.queue.specs.Slide.{packed-found}
use Rattle.rules.specs.Table.{queue_of}
use Rattle.table.specs.Image.{view}
use Rattle.table.specs.Queues.{view-slots}
use Rattle.table.specs.Shape.{view-shaped}
use Rattle.table.proofs.Places.{rework_slid, rework_again}
use Rattle.table.proofs.moves.rework_in.Goals as goal

pub drop_from-requires : goal.drop_from-requires
drop_from-requires c =
    let a = c.args in
    let l = queue_of (view a.s.now) a.q in
    (omega arith, omega arith, packed-found a.i _ l c.packed_in-at.ensures (omega (arith, view-slots a.s.now (omega arith) a.q (omega arith))))

pub returns-then-at-lt-SLOTS : goal.returns-then-at-lt-SLOTS
returns-then-at-lt-SLOTS c =
    let a = c.args in
    rework_slid a.i a.p a.q (view a.s.now) a.ahead (omega arith) (view-shaped a.s.now (omega arith)).queues _ _ _ _ c.drop_from.ensures c.set_work.ensures c.slide_in.ensures c.add_in.ensures

pub returns : goal.returns
returns c =
    let a = c.args in
    rework_again a.i a.p a.q (view a.s.now) a.ahead _ _ _ c.leave_queue.ensures c.set_work-2.ensures c.enter_queue.ensures
