use Rattle.std.proofs.Common.{refl, eq-eqb, ne_eqb}
use Rattle.rules.specs.Task.{resume_answer, resume}
use Rattle.service.specs.Serving.{handed-on, refused, served}
use Rattle.task.proofs.resume_task.Goals as goal

pub returns-in_err-i : goal.returns-in_err-i
unfolding resume_answer
returns-in_err-i c =
    handed-on c.in_err-i.field-0.0 c.from_residual.result c.from_residual.ensures.1 (c.in_err-i.ensures.answers _)

pub returns-then-n-eq0 : goal.returns-then-n-eq0
unfolding resume_answer
returns-then-n-eq0 c =
    let i = c.in_ok-i.ensures in
    refused (rw (← rw i.within.0 at c.get_suspend-n.ensures, eq-eqb _ _ c.if-n-eq0.true) (i.answers _)) refl

pub returns : goal.returns
unfolding resume_answer resume
returns c =
    let i = c.in_ok-i.ensures in
    served (rw (← rw i.within.0 at c.get_suspend-n.ensures, ne_eqb _ _ c.if-n-eq0.false) (i.answers _)) refl (cc i.within.0)
