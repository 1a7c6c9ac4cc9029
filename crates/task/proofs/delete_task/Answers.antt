use Rattle.std.proofs.Common.{refl}
use Rattle.rules.specs.Task.{delete_answer, delete}
use Rattle.service.specs.Serving.{handed-on, refused, served}
use Rattle.task.proofs.delete_task.Goals as goal

pub returns-in_err-i : goal.returns-in_err-i
unfolding delete_answer
returns-in_err-i c =
    handed-on c.in_err-i.field-0.0 c.from_residual.result c.from_residual.ensures.1 (c.in_err-i.ensures.answers _)

pub returns-then-runs_locked : goal.returns-then-runs_locked
unfolding delete_answer
returns-then-runs_locked c =
    let i = c.in_ok-i.ensures in
    refused (rw (← rw i.within.0 at c.if-runs_locked.ensures) (i.answers _)) refl

pub returns-then-holds_any : goal.returns-then-holds_any
unfolding delete_answer
returns-then-holds_any c =
    let i = c.in_ok-i.ensures in
    refused (rw (← rw i.within.0 at c.if-runs_locked.ensures, ← rw i.within.0 at c.if-holds_any.ensures) (i.answers _)) refl

pub returns : goal.returns
unfolding delete_answer delete
returns c =
    let i = c.in_ok-i.ensures in
    served (rw (← rw i.within.0 at c.if-runs_locked.ensures, ← rw i.within.0 at c.if-holds_any.ensures) (i.answers _)) refl (cc i.within.0)
