use Rattle.std.proofs.Common.{sym, ◌∙◌}
use Rattle.table.specs.Image.{view}
use Rattle.tick.proofs.Laws.{due_not, due-delay, due-wait}
use Rattle.tick.proofs.end_due.Goals as goal

pub returns-then-not-is_due : goal.returns-then-not-is_due
returns-then-not-is_due c =
    let a = c.args in
    due_not a.i (view a.s.now) (sym c.is_due.ensures ∙ c.if-not-is_due.true)

pub returns-then-get_state-eq-DELAYED : goal.returns-then-get_state-eq-DELAYED
returns-then-get_state-eq-DELAYED c =
    let a = c.args in
    c.end_wait.ensures ∙ due-delay a.i (view a.s.now) (sym c.is_due.ensures ∙ c.if-not-is_due.false) (sym c.get_state.ensures ∙ c.if-get_state-eq-DELAYED.true)

pub returns : goal.returns
returns c =
    let a = c.args in
    c.end_wait-2.ensures ∙ due-wait a.i (view a.s.now) (sym c.is_due.ensures ∙ c.if-not-is_due.false) (λ z. c.if-get_state-eq-DELAYED.false (c.get_state.ensures ∙ z))
