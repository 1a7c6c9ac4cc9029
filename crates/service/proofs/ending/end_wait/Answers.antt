use mathlib.Core.Path.{sym, ap, ◌∙◌}
use Prim.Native.Nat.{ℕ, ◌<◌}
use native.Mathlib.Omega.{arith}
use Rattle.rules.specs.Sizes.{task_count}
use Rattle.rules.specs.Move.{walk}
use Rattle.table.specs.Image.{view}
use Rattle.table.specs.Shape.{view-shaped}
use Rattle.service.proofs.Endings.{ended_none, ended_is, settled-away}
use Rattle.service.proofs.ending.end_wait.Goals as goal

pub returns-then-i-ge-TASKS : goal.returns-then-i-ge-TASKS
returns-then-i-ge-TASKS c =
    sym (ended_none c.args.outcome c.args.i (view c.args.s.now) c.if-i-ge-TASKS.true (view-shaped c.args.s.now (omega arith)).tasks)

pub come_back-requires : goal.come_back-requires
come_back-requires c =
    let l : c.args.i < task_count = omega arith in
    let left = view c.delay_task.new.s in
    let moved = c.walk_from.ensures ∙ ap (λ (n : ℕ). walk n left) c.next_of-holder.ensures in
    (l, settled-away c.args.i (view c.args.s.now) left _ l (view-shaped c.args.s.now (omega arith)).tasks c.delay_task.ensures moved)

pub returns : goal.returns
returns c =
    let a = c.args in
    let left = view c.delay_task.new.s in
    let moved = c.walk_from.ensures ∙ ap (λ (n : ℕ). walk n left) c.next_of-holder.ensures in
    c.come_back.ensures ∙ ended_is a.outcome a.i (view a.s.now) left _ c.delay_task.ensures moved
