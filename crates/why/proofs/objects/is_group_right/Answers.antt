use lib.Dec.{eqb}
use borrow.Author.Tests.{lt-ltb}
use Rattle.rules.specs.Sound.{is_no_group}
use Rattle.why.specs.Tests.{kept_in}
use Rattle.why.specs.Zeros.{free_is}
use Rattle.why.proofs.objects.is_group_right.Goals as goal

pub returns-in-66 : goal.returns-in-66
unfolding kept_in is_no_group
returns-in-66 c =
    rw (c.in-66.is, lt-ltb _ 8 c.if-i-ge8.false) (cc (free_is (eqb c.get_used-in-66.result 0) (eqb c.get_flags-in-66.result 0)))
