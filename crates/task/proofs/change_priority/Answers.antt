use Rattle.std.proofs.Common.{refl, le-ltb, lt-ltb}
use Rattle.rules.specs.Table.{task_of, with_base}
use Rattle.rules.specs.Task.{priority_answer, change_priority}
use Rattle.laws.specs.queues.Put.{put-stays, place_same}
use Rattle.table.specs.Image.{view}
use Rattle.service.specs.Serving.{handed-on, refused, served}
use Rattle.task.proofs.change_priority.Goals as goal

pub returns-in_err-i : goal.returns-in_err-i
unfolding priority_answer
returns-in_err-i c =
    handed-on c.in_err-i.field-0.0 c.from_residual.result c.from_residual.ensures.1 (c.in_err-i.ensures.answers _)

pub returns-then-base-gt-LAST_PRIORITY : goal.returns-then-base-gt-LAST_PRIORITY
unfolding priority_answer
returns-then-base-gt-LAST_PRIORITY c =
    refused (rw (lt-ltb _ _ c.if-base-gt-LAST_PRIORITY.true) (c.in_ok-i.ensures.answers _)) refl

pub returns : goal.returns
unfolding priority_answer change_priority
returns c =
    let i = c.in_ok-i.i in
    let t = view c.args.s.now in
    let known = c.in_ok-i.ensures in
    let k = task_of t i in
    let stays = put-stays i (with_base c.args.base k) t known.within.1 (place_same (with_base c.args.base k) k refl refl refl refl) refl in
    served (rw (le-ltb _ _ c.if-base-gt-LAST_PRIORITY.false) (known.answers _)) refl (rw (← known.within.0) (cc stays))
