use mathlib.Core.Path.{refl, ◌∙◌}
use native.Mathlib.Omega.{arith}
use Rattle.rules.specs.Table.{task_of, with_suspend}
use Rattle.table.specs.Image.{view}
use Rattle.table.specs.Shape.{view-shaped}
use Rattle.table.specs.Settled.{settled-put}
use Rattle.task.proofs.suspend_to.Goals as goal

pub returns : goal.returns
returns c =
    let a = c.args in
    let t = view a.s.now in
    c.settle.ensures
    ∙ settled-put a.i (with_suspend a.n (task_of t a.i)) t (omega arith) (view-shaped a.s.now (omega arith)).tasks _ c.set_suspend.ensures _ c.place_of-q.ensures refl
