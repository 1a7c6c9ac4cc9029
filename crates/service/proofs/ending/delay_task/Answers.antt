use mathlib.Core.Path.{refl, sym, ◌∙◌}
use Prim.Native.Nat.{◌<◌}
use native.Mathlib.Omega.{arith}
use Rattle.rules.specs.Sizes.{task_count, delayed}
use Rattle.rules.specs.Table.{task_of, with_state, with_mark}
use Rattle.laws.specs.queues.Put.{put_out}
use Rattle.table.specs.Image.{view}
use Rattle.table.specs.Shape.{view-shaped}
use Rattle.table.specs.Settled.{then_stored, left_put}
use Rattle.service.specs.Places.{delayed-nowhere}
use Rattle.service.proofs.ending.delay_task.Goals as goal

pub returns-then-i-ge-TASKS : goal.returns-then-i-ge-TASKS
returns-then-i-ge-TASKS c =
    let a = c.args in
    sym (put_out a.i _ (view a.s.now) c.if-i-ge-TASKS.true)

pub returns : goal.returns
returns c =
    let a = c.args in
    let t = view a.s.now in
    let k = task_of t a.i in
    let l : a.i < task_count = omega arith in
    let size = (view-shaped a.s.now (omega arith)).tasks in
    let stored = c.set_mark.ensures ∙ then_stored a.i t l size (with_mark a.marked a.due) (with_state delayed 0 k) _ c.set_state.ensures in
    c.leave_queue.ensures
    ∙ left_put a.i (with_state delayed 0 (with_mark a.marked a.due k)) t l _ stored _ c.place_of-q.ensures refl (delayed-nowhere _ refl)
