use mathlib.Core.Path.{refl, ◌∙◌}
use Rattle.rules.specs.Channel.{post_answer}
use Rattle.table.specs.Image.{view}
use Rattle.service.specs.Serving.{handed-on, refused, served}
use Rattle.channel.proofs.Laws.{bad_front, full, not-full}
use Rattle.channel.proofs.post.Goals as goal

pub returns-in_err-j : goal.returns-in_err-j
unfolding post_answer
returns-in_err-j c =
    handed-on c.in_err-j.field-0.0 c.from_residual.result c.from_residual.ensures.1 (c.in_err-j.ensures.answers _)

pub returns-then-front-gt1 : goal.returns-then-front-gt1
unfolding post_answer
returns-then-front-gt1 c =
    let a = c.args in
    refused (bad_front a.i a.front (view a.s.now) c.if-front-gt1.true ∙ c.in_ok-j.ensures.answers _) refl

pub returns-then-capacity-get_held : goal.returns-then-capacity-get_held
unfolding post_answer
returns-then-capacity-get_held c =
    let a = c.args in
    let same = c.in_ok-j.ensures.within.0 in
    refused (full a.i a.front (view a.s.now) c.if-front-gt1.false (rw same at c.get_capacity-capacity.ensures) (rw same at c.get_held.ensures) c.if-capacity-get_held.true ∙ c.in_ok-j.ensures.answers _) refl

pub returns : goal.returns
unfolding post_answer
returns c =
    let a = c.args in
    let same = c.in_ok-j.ensures.within.0 in
    served (not-full a.i a.front (view a.s.now) c.if-front-gt1.false (rw same at c.get_capacity-capacity.ensures) (rw same at c.get_held.ensures) c.if-capacity-get_held.false ∙ c.in_ok-j.ensures.answers _) refl
    (rw same at c.give.ensures)
