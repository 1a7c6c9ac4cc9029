use mathlib.Core.Path.{ap, ◌∙◌}
use Prim.Native.Nat.{ℕ}
use native.Mathlib.Omega.{arith}
use Rattle.rules.specs.Table.{task_of, with_task, with_left}
use Rattle.table.specs.Image.{view}
use Rattle.table.proofs.Places.{rotate_is}
use Rattle.table.proofs.moves.rotate_in.Goals as goal

pub returns : goal.returns
returns c =
    let a = c.args in
    let t = view a.s.now in
    c.move_in.ensures
    ∙ rotate_is a.i t _ (omega arith) (c.set_left.ensures ∙ ap (λ (n : ℕ). with_task a.i (with_left n (task_of t a.i)) t) c.get_quantum-quantum.ensures)
