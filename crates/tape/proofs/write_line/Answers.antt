use borrow.Author.Tests.{lt-leb, le-leb}
use Rattle.tape.specs.Line.{line_in, wrote_nothing}
use Rattle.tape.proofs.write_line.Goals as goal

pub returns-then-room-lt6 : goal.returns-then-room-lt6
unfolding line_in
returns-then-room-lt6 c =
    rw (← c.saturating_sub-room.ensures, lt-leb _ _ c.if-room-lt6.true) (wrote_nothing _ _)

pub returns : goal.returns
unfolding line_in
returns c =
    rw (← c.saturating_sub-room.ensures, le-leb _ _ c.if-room-lt6.false) c.write_fitting.ensures
