use mathlib.Core.Path.{sym, ap}
use Prim.Native.Nat.{ℕ}
use native.Mathlib.Omega.{arith}
use Rattle.rules.specs.Table.{with_ready}
use Rattle.table.specs.Image.{view}
use Rattle.table.specs.Ready.{left_other}
use Rattle.table.specs.Settled.{leave_none}
use Rattle.table.proofs.Places.{leaves}
use Rattle.table.proofs.moves.leave_queue.Goals as goal

pub returns-then-q-ge-QUEUES : goal.returns-then-q-ge-QUEUES
returns-then-q-ge-QUEUES c =
    let a = c.args in
    sym (leave_none a.q a.i (view a.s.now) c.if-q-ge-QUEUES.true)

pub returns : goal.returns
returns c =
    let a = c.args in
    let t = view a.s.now in
    leaves a.q a.i t t _ (omega arith) (ap (λ (w : ℕ). with_ready w t) (sym (left_other a.q a.i t c.if-q-eq-ABLE_QUEUE.false))) c.remove_in.ensures
