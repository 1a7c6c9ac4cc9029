use mathlib.Core.Path.{◌≡◌, refl, ap, ◌∙◌}
use native.Mathlib.Omega.{arith}
use Rattle.rules.specs.Move.{chosen}
use Rattle.rules.specs.Semaphore.{post_answer, post}
use Rattle.table.specs.Image.{view}
use Rattle.service.specs.Serving.{handed-on, refused, served}
use Rattle.semaphore.proofs.Laws.{full, not-full, post-counts, post-gives}
use Rattle.semaphore.proofs.post.Goals.{in-None, in-Some}
use Rattle.semaphore.proofs.post.Goals as goal

pub returns-in_err-j : goal.returns-in_err-j
unfolding post_answer
returns-in_err-j c =
    handed-on c.in_err-j.field-0.0 c.from_residual.result c.from_residual.ensures.1 (c.in_err-j.ensures.answers _)

pub returns-then-count : goal.returns-then-count
unfolding post_answer
returns-then-count c =
    let same = c.in_ok-j.ensures.within.0 in
    refused (full c.args.i (view c.args.s.now) (rw same at c.get_count-count.ensures) c.if-count.true ∙ c.in_ok-j.ensures.answers _) refl

pub returns : goal.returns
unfolding post_answer
returns c =
    let i = c.args.i in
    let t = view c.args.s.now in
    let same = c.in_ok-j.ensures.within.0 in
    let count = rw same at c.get_count-count.ensures in
    let made : view c.match-first_in.s ≡ post i t = elim c.match-first_in.branch [
      | in-None w ↦ ap view w.s-is ∙ post-counts i t count (rw same at w.in-None.ensures.front) (rw same at w.set_count.ensures)
      | in-Some w ↦ ap view w.s-is ∙ post-gives i t w.in-Some.w (rw same at w.in-Some.ensures.front) w.end_wait.ensures
    ] in
    served (not-full i t count (omega arith) ∙ c.in_ok-j.ensures.answers _) refl (c.choose.ensures ∙ ap chosen made)
