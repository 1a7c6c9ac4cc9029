use borrow.Author.Tests.{lt-ltb, le-ltb}
use Rattle.rules.specs.Group.{meeting}
use Rattle.group.proofs.tests.meeting.Goals as goal

pub returns-then-asked-lt-ALL_CLEAR : goal.returns-then-asked-lt-ALL_CLEAR
unfolding meeting
returns-then-asked-lt-ALL_CLEAR c =
    rw (lt-ltb _ _ c.if-asked-lt-ALL_CLEAR.true)

pub returns : goal.returns
unfolding meeting
returns c =
    rw (le-ltb _ _ c.if-asked-lt-ALL_CLEAR.false)
