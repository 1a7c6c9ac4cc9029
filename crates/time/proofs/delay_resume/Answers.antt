use Rattle.std.proofs.Common.{refl, ne_eqb}
use Rattle.rules.specs.Time.{delay_resume_answer, delay_resume}
use Rattle.service.specs.Serving.{handed-on, refused, served}
use Rattle.time.proofs.delay_resume.Goals as goal

pub returns-in_err-i : goal.returns-in_err-i
unfolding delay_resume_answer
returns-in_err-i c =
    handed-on c.in_err-i.field-0.0 c.from_residual.result c.from_residual.ensures.1 (c.in_err-i.ensures.answers _)

pub returns-then-get_state-ne-DELAYED : goal.returns-then-get_state-ne-DELAYED
unfolding delay_resume_answer
returns-then-get_state-ne-DELAYED c =
    let i = c.in_ok-i.ensures in
    refused (rw (← rw i.within.0 at c.get_state.ensures, ne_eqb _ _ c.if-get_state-ne-DELAYED.true) (i.answers _)) refl

pub returns : goal.returns
unfolding delay_resume_answer delay_resume
returns c =
    let i = c.in_ok-i.ensures in
    served (rw (← rw i.within.0 at c.get_state.ensures, c.if-get_state-ne-DELAYED.false) (i.answers _)) refl (cc i.within.0)
