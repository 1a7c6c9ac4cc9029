use mathlib.Core.Path.{refl, ap, ◌∙◌}
use native.Mathlib.Omega.{arith}
use Rattle.rules.specs.Move.{chosen}
use Rattle.rules.specs.Channel.{create}
use Rattle.table.specs.Image.{view}
use Rattle.service.specs.Serving.{handed-on, refused, served}
use Rattle.channel.proofs.Laws.{create-refused, create-goes_on, few_messages}
use Rattle.channel.proofs.create.Goals as goal

pub returns-in_err-j : goal.returns-in_err-j
returns-in_err-j c =
    let a = c.args in
    let r = c.in_err-j.field-0.0 in
    handed-on r c.from_residual.result c.from_residual.ensures.1 (create-refused a.i a.capacity (view a.s.now) r c.in_err-j.ensures.answers)

pub returns-then-capacity : goal.returns-then-capacity
returns-then-capacity c =
    let a = c.args in
    refused (create-goes_on a.i a.capacity (view a.s.now) c.in_ok-j.ensures.answers (rw c.if-capacity.true refl)) refl

pub overflow_cast-capacity-2 : goal.overflow_cast-capacity-2
overflow_cast-capacity-2 c =
    omega (arith, few_messages c.args.capacity c.if-capacity.false)

pub returns : goal.returns
unfolding create
returns c =
    let a = c.args in
    served (create-goes_on a.i a.capacity (view a.s.now) c.in_ok-j.ensures.answers (rw c.if-capacity.false refl)) refl (c.choose.ensures ∙ ap chosen (rw c.in_ok-j.ensures.within.0 at c.store.ensures))
