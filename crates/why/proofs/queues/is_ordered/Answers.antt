use Prim.Native.Nat.{◌+◌}
use native.Mathlib.Omega.{arith}
use lib.ListN.{get_or-eq_default}
use Rattle.rules.specs.Table.{queue_of, slot_in, works}
use Rattle.table.specs.Image.{view}
use Rattle.table.specs.Shape.{view-shaped}
use Rattle.why.specs.Slots.{stand_free}
use Rattle.why.proofs.queues.is_ordered.Goals as goal

pub returns-then-j-ge31 : goal.returns-then-j-ge31
returns-then-j-ge31 c =
    let a = c.args in
    let t = view a.s.now in
    let s = view-shaped a.s.now (omega arith) in
    stand_free (works t) (slot_in a.q a.j t) (slot_in a.q (a.j + 1) t) (get_or-eq_default (queue_of t a.q) 0 {n = a.j + 1} (omega (arith, s.slots a.q (omega arith))))

pub returns : goal.returns
returns c =
    cc
