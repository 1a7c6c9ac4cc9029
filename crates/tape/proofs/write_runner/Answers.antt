use Rattle.std.proofs.Common.{eq-eqb, ne_eqb}
use Rattle.rules.specs.Tape.{runner}
use Rattle.tape.proofs.write_runner.Goals as goal

pub returns-then-runs-eq0 : goal.returns-then-runs-eq0
unfolding runner
returns-then-runs-eq0 c = rw (eq-eqb _ _ c.if-runs-eq0.true) c.write.ensures

pub returns-else-runs-eq0 : goal.returns-else-runs-eq0
unfolding runner
returns-else-runs-eq0 c = rw (ne_eqb _ _ c.if-runs-eq0.false) c.write_decimal.ensures
