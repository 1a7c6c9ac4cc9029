use mathlib.Core.Path.{sym, ◌∙◌}
use Prim.Native.Nat.{min}
use Rattle.rules.specs.Move.{next, put_work}
use Rattle.table.specs.Image.{view}
use Rattle.laws.specs.local.Table.{work_of}
use Rattle.laws.specs.local.Turn.{cheap_on_none, cheap_on_past, rise_on_still, rise_on_turn}
use Rattle.chain.proofs.local.+raise_on.Goals as goal

pub returns-then-left-eq0 : goal.returns-then-left-eq0
returns-then-left-eq0 t c =
    let a = c.args in
    sym (cheap_on_none 32 next work_of (λ t s. min (work_of t s) a.p) put_work a.left a.i (view a.s.now) c.if-left-eq0.true)

pub returns-then-i-ge-TASKS : goal.returns-then-i-ge-TASKS
returns-then-i-ge-TASKS t c =
    let a = c.args in
    sym (cheap_on_past 32 next work_of (λ t s. min (work_of t s) a.p) put_work a.left a.i (view a.s.now) c.if-i-ge-TASKS.true)

pub returns-then-get_work-p : goal.returns-then-get_work-p
returns-then-get_work-p t c =
    let a = c.args in
    sym (rise_on_still 32 next work_of put_work a.p a.left a.i (view a.s.now) (rw c.get_work.ensures at c.if-get_work-p.true))

pub returns : goal.returns
returns t c =
    let a = c.args in
    c.raise_on.ensures
    ∙ rw (c.rework_task.ensures, c.next_of-further.ensures)
    (sym (rise_on_turn 32 next work_of put_work a.p a.left a.i (view a.s.now) c.if-left-eq0.false c.if-i-ge-TASKS.false (rw c.get_work.ensures at c.if-get_work-p.false)))
