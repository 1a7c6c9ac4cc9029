use borrow.Author.Tests.{eq-eqb, ne_eqb}
use Rattle.rules.specs.Group.{meeting, consumed}
use Rattle.group.proofs.tests.consumed.Goals as goal

pub returns-then-asked-eq1 : goal.returns-then-asked-eq1
unfolding consumed meeting
returns-then-asked-eq1 c =
    rw (eq-eqb _ _ c.if-asked-eq1.true) c.meeting.ensures

pub returns : goal.returns
unfolding consumed
returns c =
    rw (ne_eqb _ _ c.if-asked-eq1.false)
