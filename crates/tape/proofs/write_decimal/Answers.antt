use Rattle.std.proofs.Common.{lt-ltb, le-ltb}
use Rattle.rules.specs.Tape.{decimal}
use Rattle.tape.proofs.write_decimal.Goals as goal

pub returns-then-n-lt10 : goal.returns-then-n-lt10
unfolding decimal
returns-then-n-lt10 c = rw (lt-ltb _ _ c.if-n-lt10.true) c.write.ensures

pub returns-else-n-lt10 : goal.returns-else-n-lt10
unfolding decimal
returns-else-n-lt10 c = rw (le-ltb _ _ c.if-n-lt10.false) c.write-else-n-lt10.ensures
