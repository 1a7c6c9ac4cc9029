use borrow.Author.Tests.{eq-eqb, ne_eqb}
use Rattle.queue.specs.Order.{may_precede}
use Rattle.queue.proofs.may_precede.Goals as goal

pub returns-then-w-eq0 : goal.returns-then-w-eq0
unfolding may_precede
returns-then-w-eq0 c =
    rw (eq-eqb _ _ c.if-w-eq0.true)

pub returns : goal.returns
unfolding may_precede
returns c =
    rw (ne_eqb _ _ c.if-w-eq0.false, ← c.slot_or_free-a.ensures, ← c.slot_or_free-b.ensures)
