use borrow.Author.Tests.{lt-leb, le-leb}
use Rattle.tape.specs.Line.{bad_in, wrote_nothing}
use Rattle.tape.proofs.write_bad.Goals as goal

pub returns-then-room-lt4 : goal.returns-then-room-lt4
unfolding bad_in
returns-then-room-lt4 c =
    rw (← c.saturating_sub-room.ensures, lt-leb _ _ c.if-room-lt4.true) (wrote_nothing _ _)

pub returns : goal.returns
unfolding bad_in
returns c =
    rw (← c.saturating_sub-room.ensures, le-leb _ _ c.if-room-lt4.false) c.write.ensures
