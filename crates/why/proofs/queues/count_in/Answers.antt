use Rattle.std.proofs.Common.{◌≡◌, arith}
use lib.Dec.{eqb}
use Rattle.queue.specs.Order.{one}
use Rattle.rules.specs.Table.{queue_of, slot_in}
use Rattle.table.specs.Image.{view}
use Rattle.table.specs.Queues.{view-slots}
use Rattle.why.specs.Slots.{count_at, count_end, once_is, once_most}
use Rattle.why.proofs.queues.count_in.Goals as goal

pub loop-j-preserved : goal.loop-j-preserved
loop-j-preserved c =
    let l = c.loop-j in
    let a = c.args in
    let t = view a.s.now in
    let e : c.from-n.result ≡ one a.v (slot_in a.q l.j t) = cc (once_is (eqb c.slot_in.result a.v)) in
    omega (arith, e, c.from-n.ensures, once_is (eqb c.slot_in.result a.v), once_most (eqb c.slot_in.result a.v), l.invariant, count_at a.v (queue_of t a.q) l.j (omega (arith, view-slots a.s.now (omega arith) a.q (omega arith))))

pub returns : goal.returns
returns c =
    let l = c.loop-j in
    let a = c.args in
    omega (arith, l.invariant, count_end a.v (queue_of (view a.s.now) a.q) l.j (omega (arith, view-slots a.s.now (omega arith) a.q (omega arith))))
