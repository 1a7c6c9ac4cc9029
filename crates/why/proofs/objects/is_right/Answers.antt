use lib.Dec.{eqb}
use borrow.Author.Tests.{lt-ltb}
use Rattle.rules.specs.Sound.{is_no_semaphore}
use Rattle.why.specs.Tests.{kept_in}
use Rattle.why.specs.Zeros.{free_is}
use Rattle.why.proofs.objects.is_right.Goals as goal

pub returns-in-34 : goal.returns-in-34
unfolding kept_in is_no_semaphore
returns-in-34 c =
    rw (c.in-34.is, lt-ltb _ 16 c.if-i-ge16.false) (cc (free_is (eqb c.get_used-in-34.result 0) (eqb c.get_count-in-34.result 0)))
