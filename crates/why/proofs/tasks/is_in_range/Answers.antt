use borrow.Author.Tests.{lt-ltb}
use Rattle.why.specs.Tests.{kept_in}
use Rattle.why.specs.Zeros.{due_is, mask_is}
use Rattle.why.proofs.tasks.is_in_range.Goals as goal

pub returns-in-10 : goal.returns-in-10
unfolding kept_in
returns-in-10 c =
    rw (c.in-10.is, lt-ltb _ 32 c.if-i-ge32.false) (cc (due_is c.get_marked-in-10.result c.get_due.result c.get_due.type_inv))

pub returns-in-12 : goal.returns-in-12
unfolding kept_in
returns-in-12 c =
    rw (c.in-12.is, lt-ltb _ 32 c.if-i-ge32.false) (cc (mask_is c.get_state-in-12.result c.get_mask.result c.get_mask.type_inv))
