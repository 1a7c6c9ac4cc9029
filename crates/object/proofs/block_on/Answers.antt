use native.Mathlib.Omega.{arith}
use mathlib.Core.Path.{◌∙◌}
use Rattle.table.specs.Image.{view}
use Rattle.table.specs.Shape.{view-shaped}
use Rattle.object.specs.Asking.{asked_in}
use Rattle.object.proofs.Laws.{blocked_none, blocked_one}
use Rattle.object.proofs.block_on.Goals as goal

pub returns-then-i-ge-TASKS : goal.returns-then-i-ge-TASKS
returns-then-i-ge-TASKS c =
    let a = c.args in
    blocked_none (view a.s.now) c.caller_of-i.ensures.0 _ a.object a.limit (asked_in a.asked) c.if-i-ge-TASKS.true

pub returns : goal.returns
returns c =
    let a = c.args in
    let l = a.s.now in
    c.settle.ensures
    ∙ blocked_one (view l) c.caller_of-i.ensures.0 _ a.object a.limit (asked_in a.asked) c.if-i-ge-TASKS.false (view-shaped l (omega arith)).tasks c.place_of-q.ensures _ _ _ c.set_limit.ensures c.set_state.ensures c.set_asked.ensures
