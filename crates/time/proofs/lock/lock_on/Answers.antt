use Rattle.std.proofs.Common.{refl, le-leb}
use borrow.Author.Tests.{lt-leb}
use Rattle.rules.specs.Lock.{lock_answer, lock}
use Rattle.service.specs.Serving.{refused, served}
use Rattle.time.proofs.lock.lock_on.Goals as goal

pub returns-then-d-ge-MOST_NESTED : goal.returns-then-d-ge-MOST_NESTED
unfolding lock_answer
returns-then-d-ge-MOST_NESTED c =
    refused (rw (← c.get_depth-d.ensures, le-leb _ _ c.if-d-ge-MOST_NESTED.true)) refl

pub returns : goal.returns
unfolding lock_answer lock
returns c =
    served (rw (← c.get_depth-d.ensures, lt-leb _ _ c.if-d-ge-MOST_NESTED.false)) refl (cc)
