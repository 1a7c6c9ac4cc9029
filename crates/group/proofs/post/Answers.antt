use mathlib.Core.Path.{refl, ap, ◌∙◌}
use Prim.Native.Nat.{ℕ}
use Rattle.rules.specs.Sizes.{task_count}
use Rattle.rules.specs.Group.{posted, woken, post_answer, post}
use Rattle.rules.specs.Move.{chosen}
use Rattle.table.specs.Image.{view}
use Rattle.service.specs.Serving.{handed-on, refused, served}
use Rattle.group.proofs.Laws.{no-mask, no_on, posts_rightly}
use Rattle.group.proofs.post.Goals as goal

pub returns-in_err-j : goal.returns-in_err-j
unfolding post_answer
returns-in_err-j c =
    handed-on c.in_err-j.field-0.0 c.from_residual.result c.from_residual.ensures.1 (c.in_err-j.ensures.answers _)

pub returns-then-mask-eq0 : goal.returns-then-mask-eq0
unfolding post_answer
returns-then-mask-eq0 c =
    refused (no-mask c.args.mask c.args.on c.if-mask-eq0.true ∙ c.in_ok-j.ensures.answers _) refl

pub returns-then-on-gt1 : goal.returns-then-on-gt1
unfolding post_answer
returns-then-on-gt1 c =
    refused (no_on c.args.mask c.args.on c.if-mask-eq0.false c.if-on-gt1.true ∙ c.in_ok-j.ensures.answers _) refl

pub returns : goal.returns
unfolding post_answer post
returns c =
    let a = c.args in
    let same = c.in_ok-j.ensures.within.0 in
    served (posts_rightly a.mask a.on c.if-mask-eq0.false c.if-on-gt1.false ∙ c.in_ok-j.ensures.answers _) refl
    (c.choose.ensures
    ∙ ap chosen ((rw same at c.wake.ensures)
    ∙ ap (λ (x : ℕ). woken task_count a.i x 0 0 (view a.s.now)) (c.posted-flags.ensures ∙ ap (posted a.mask a.on) (rw same at c.get_flags-before.ensures))))
