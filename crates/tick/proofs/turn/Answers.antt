use native.Mathlib.Omega.{arith}
use Rattle.std.proofs.Common.{ℕ, ◌-◌, ap, ◌∙◌}
use Rattle.table.specs.Image.{view}
use Rattle.table.specs.Shape.{view-shaped}
use Rattle.tick.proofs.Laws.{turned_none, turned_not, turned-over, turned_on}
use Rattle.tick.proofs.turn.Goals as goal

pub returns-then-i-ge-TASKS : goal.returns-then-i-ge-TASKS
returns-then-i-ge-TASKS c =
    let l = c.args.s.now in
    turned_none (view l) c.caller_of-i.ensures.0 (view-shaped l (omega arith)).tasks c.if-i-ge-TASKS.true

pub returns-then-get_running-eq0 : goal.returns-then-get_running-eq0
returns-then-get_running-eq0 c =
    let l = c.args.s.now in
    turned_not (view l) c.caller_of-i.ensures.0 (view-shaped l (omega arith)).tasks c.if-i-ge-TASKS.false c.get_running.ensures c.if-get_running-eq0.true

pub returns-then-is_over : goal.returns-then-is_over
returns-then-is_over c =
    let l = c.args.s.now in
    let less = c.saturating_sub-left.ensures ∙ ap (λ (n : ℕ). n - 1) c.get_left.ensures in
    c.rotate_task.ensures
    ∙ turned-over (view l) c.caller_of-i.ensures.0 (view-shaped l (omega arith)).tasks c.if-i-ge-TASKS.false c.get_running.ensures less c.set_left.ensures c.is_over.ensures c.if-get_running-eq0.false c.if-is_over.true

pub returns-else-is_over : goal.returns-else-is_over
returns-else-is_over c =
    let l = c.args.s.now in
    let less = c.saturating_sub-left.ensures ∙ ap (λ (n : ℕ). n - 1) c.get_left.ensures in
    turned_on (view l) c.caller_of-i.ensures.0 (view-shaped l (omega arith)).tasks c.if-i-ge-TASKS.false c.get_running.ensures less c.set_left.ensures c.is_over.ensures c.if-get_running-eq0.false c.if-is_over.false
