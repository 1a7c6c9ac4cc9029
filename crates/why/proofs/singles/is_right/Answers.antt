use lib.Dec.{eqb}
use borrow.Author.Tests.{lt-ltb}
use Rattle.why.specs.Tests.{kept_in}
use Rattle.why.specs.Zeros.{or_is}
use Rattle.why.proofs.singles.is_right.Goals as goal

pub returns-in-180 : goal.returns-in-180
unfolding kept_in
returns-in-180 c =
    rw (c.in-180.is, lt-ltb _ 1 c.if-i-ge1.false) (cc (or_is (eqb c.get_depth-depth.result 0) c.may_run.result))
