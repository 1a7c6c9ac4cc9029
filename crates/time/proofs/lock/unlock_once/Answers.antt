use Rattle.std.proofs.Common.{refl, eq-eqb, ne_eqb}
use Rattle.rules.specs.Lock.{unlock_answer, unlock}
use Rattle.service.specs.Serving.{refused, served}
use Rattle.time.proofs.lock.unlock_once.Goals as goal

pub returns-then-d-eq0 : goal.returns-then-d-eq0
unfolding unlock_answer
returns-then-d-eq0 c =
    refused (rw (← c.get_depth-d.ensures, eq-eqb _ _ c.if-d-eq0.true)) refl

pub returns : goal.returns
unfolding unlock_answer unlock
returns c =
    served (rw (← c.get_depth-d.ensures, ne_eqb _ _ c.if-d-eq0.false)) refl (cc)
