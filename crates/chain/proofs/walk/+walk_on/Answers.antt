use mathlib.Core.Path.{sym, ◌∙◌}
use native.Mathlib.Omega.{arith}
use Rattle.rules.specs.Move.{next, fresh_in, put_work}
use Rattle.table.specs.Image.{view}
use Rattle.laws.specs.chains.Walk.{walk_on_none, walk_on_past, walk_on_turn}
use Rattle.chain.specs.Given.{given-work}
use Rattle.chain.proofs.walk.+walk_on.Goals as goal

pub returns-then-n-eq0 : goal.returns-then-n-eq0
returns-then-n-eq0 t c =
    let a = c.args in
    let w = c.pass_right-stand in
    sym (w.ensures.1 ∙ walk_on_none 32 next fresh_in put_work w.result.left w.result.task (view a.s.now) c.if-n-eq0.true)

pub returns-then-at-ge-TASKS : goal.returns-then-at-ge-TASKS
returns-then-at-ge-TASKS t c =
    let a = c.args in
    let w = c.pass_right-stand in
    sym (w.ensures.1 ∙ walk_on_past 32 next fresh_in put_work w.result.left w.result.task (view a.s.now) c.if-at-ge-TASKS.true)

pub walk_on-requires : goal.walk_on-requires
walk_on-requires t c =
    let w = c.pass_right-stand in
    (omega (arith, w.ensures.0, c.decreases), rw c.rework_task.ensures (given-work w.result.task _ (omega arith) c.requires))

pub returns : goal.returns
returns t c =
    let a = c.args in
    let w = c.pass_right-stand in
    c.walk_on.ensures
    ∙ rw (c.rework_task.ensures, c.next_of-further.ensures, c.fresh_of-p.ensures)
    (sym (w.ensures.1 ∙ walk_on_turn 32 next fresh_in put_work w.result.left w.result.task (view a.s.now) c.if-n-eq0.false c.if-at-ge-TASKS.false))
