use mathlib.Core.Path.{sym, ap}
use mathlib.Core.List.{List, []}
use Prim.Native.Nat.{ℕ, ◌≤◌}
use lib.ListN.{length, get_or, get_or-eq_default}
use native.Mathlib.Omega.{arith}
use Rattle.table.specs.Image.{view}
use Rattle.table.specs.Shape.{view-shaped}
use Rattle.table.proofs.moves.first_in.Goals as goal

pub returns-then-q-ge-QUEUES-clause-front : goal.returns-then-q-ge-QUEUES-clause-front
returns-then-q-ge-QUEUES-clause-front c =
    let a = c.args in
    let t = view a.s.now in
    let h : length t.queues ≤ a.q = omega (arith, (view-shaped a.s.now (omega arith)).queues) in
    ap (λ (l : List ℕ). get_or l 0 0) (sym (get_or-eq_default t.queues [] h))
