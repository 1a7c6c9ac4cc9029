use mathlib.Core.Path.{refl}
use borrow.Author.Tests.{lt-ltb, le-ltb, eq-eqb, ne_eqb}
use Rattle.rules.specs.Quantum.{default_answer, set_default}
use Rattle.service.specs.Serving.{refused, served}
use Rattle.task.proofs.quantum.set_default.Goals as goal

pub returns-then-quantum-eq0 : goal.returns-then-quantum-eq0
unfolding default_answer
returns-then-quantum-eq0 c =
    refused (rw (eq-eqb _ _ c.if-quantum-eq0.true)) refl

pub returns-then-quantum-gt-MOST : goal.returns-then-quantum-gt-MOST
unfolding default_answer
returns-then-quantum-gt-MOST c =
    refused (rw (ne_eqb _ _ c.if-quantum-eq0.false, lt-ltb _ _ c.if-quantum-gt-MOST.true)) refl

pub returns : goal.returns
unfolding default_answer set_default
returns c =
    served (rw (ne_eqb _ _ c.if-quantum-eq0.false, le-ltb _ _ c.if-quantum-gt-MOST.false)) refl (cc)
