use borrow.Author.Tests.{eq-eqb, ne_eqb}
use Rattle.rules.specs.Quantum.{quantum_of}
use Rattle.task.proofs.quantum.quantum_of.Goals as goal

pub returns-then-n-eq0 : goal.returns-then-n-eq0
unfolding quantum_of
returns-then-n-eq0 c =
    rw (eq-eqb _ _ c.if-n-eq0.true) c.get_default.ensures

pub returns : goal.returns
unfolding quantum_of
returns c =
    rw (ne_eqb _ _ c.if-n-eq0.false)
