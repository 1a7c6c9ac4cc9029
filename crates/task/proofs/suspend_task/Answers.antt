use Rattle.std.proofs.Common.{refl, le-leb}
use Rattle.std.proofs.lemmas.Bool.{lt-leb}
use Rattle.rules.specs.Task.{suspend_answer, suspend}
use Rattle.service.specs.Serving.{handed-on, refused, served}
use Rattle.task.proofs.suspend_task.Goals as goal

pub returns-in_err-i : goal.returns-in_err-i
unfolding suspend_answer
returns-in_err-i c =
    handed-on c.in_err-i.field-0.0 c.from_residual.result c.from_residual.ensures.1 (c.in_err-i.ensures.answers _)

pub returns-then-runs_locked : goal.returns-then-runs_locked
unfolding suspend_answer
returns-then-runs_locked c =
    let i = c.in_ok-i.ensures in
    refused (rw (← rw i.within.0 at c.if-runs_locked.ensures) (i.answers _)) refl

pub returns-then-n-ge-MOST_NESTED : goal.returns-then-n-ge-MOST_NESTED
unfolding suspend_answer
returns-then-n-ge-MOST_NESTED c =
    let i = c.in_ok-i.ensures in
    refused (rw (← rw i.within.0 at c.if-runs_locked.ensures, ← rw i.within.0 at c.get_suspend-n.ensures, le-leb _ _ c.if-n-ge-MOST_NESTED.true) (i.answers _)) refl

pub returns : goal.returns
unfolding suspend_answer suspend
returns c =
    let i = c.in_ok-i.ensures in
    served (rw (← rw i.within.0 at c.if-runs_locked.ensures, ← rw i.within.0 at c.get_suspend-n.ensures, lt-leb _ _ c.if-n-ge-MOST_NESTED.false) (i.answers _)) refl (cc i.within.0)
