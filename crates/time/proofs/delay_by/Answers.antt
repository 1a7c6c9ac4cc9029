use Rattle.std.proofs.Common.{refl, eq-eqb, ne_eqb}
use Rattle.rules.specs.Time.{delay_answer, delay}
use Rattle.service.specs.Serving.{refused, served}
use Rattle.time.proofs.delay_by.Goals as goal

pub returns-then-get_running-eq0 : goal.returns-then-get_running-eq0
unfolding delay_answer
returns-then-get_running-eq0 c =
    refused (rw (← c.get_running.ensures, eq-eqb _ _ c.if-get_running-eq0.true)) refl

pub returns-then-n-eq0 : goal.returns-then-n-eq0
unfolding delay_answer
returns-then-n-eq0 c =
    refused (rw (← c.get_running.ensures, ne_eqb _ _ c.if-get_running-eq0.false, eq-eqb _ _ c.if-n-eq0.true)) refl

pub returns-then-get_depth-ne0 : goal.returns-then-get_depth-ne0
unfolding delay_answer
returns-then-get_depth-ne0 c =
    refused (rw (← c.get_running.ensures, ne_eqb _ _ c.if-get_running-eq0.false, ne_eqb _ _ c.if-n-eq0.false, ← c.get_depth.ensures, ne_eqb _ _ c.if-get_depth-ne0.true)) refl

pub returns : goal.returns
unfolding delay_answer delay
returns c =
    served (rw (← c.get_running.ensures, ne_eqb _ _ c.if-get_running-eq0.false, ne_eqb _ _ c.if-n-eq0.false, ← c.get_depth.ensures, c.if-get_depth-ne0.false)) refl (cc)
