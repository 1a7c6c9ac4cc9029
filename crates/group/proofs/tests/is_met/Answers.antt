use Rattle.rules.specs.Group.{is_met}
use Rattle.group.proofs.tests.is_met.Goals as goal

pub returns-then-asked : goal.returns-then-asked
unfolding is_met
returns-then-asked c =
    rw (c.if-asked.true, c.meeting-right.ensures)

pub returns : goal.returns
unfolding is_met
returns c =
    rw (c.if-asked.false, c.meeting-right.ensures)
