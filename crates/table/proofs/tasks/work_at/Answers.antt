use mathlib.Core.Path.{sym, ap}
use Prim.Native.Nat.{◌≤◌}
use lib.ListN.{length, get_or-eq_default}
use native.Mathlib.Omega.{arith}
use Rattle.rules.specs.declared.Task.{Task}
use Rattle.rules.specs.Table.{no_task}
use Rattle.table.specs.Image.{view}
use Rattle.table.specs.Shape.{view-shaped}
use Rattle.table.proofs.tasks.work_at.Goals as goal

pub returns-then-i-ge-TASKS : goal.returns-then-i-ge-TASKS
returns-then-i-ge-TASKS c =
    let a = c.args in
    let t = view a.s.now in
    let h : length t.tasks ≤ a.i = omega (arith, (view-shaped a.s.now (omega arith)).tasks) in
    ap (λ (k : Task). k.work) (sym (get_or-eq_default t.tasks no_task h))
