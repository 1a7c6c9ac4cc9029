use mathlib.Core.Path.{◌≡◌, refl, ◌∙◌}
use mathlib.Core.Bool.{cond}
use native.Mathlib.Omega.{arith}
use Rattle.rules.specs.Table.{asking}
use Rattle.rules.specs.Object.{block_answer}
use Rattle.rules.specs.Group.{flags_of, is_met, wait_answer}
use Rattle.table.specs.Image.{view}
use Rattle.service.specs.Serving.{handed-on, refused, told}
use Rattle.group.proofs.Laws.{no-test, no_consume, asks_rightly, few_tests}
use Rattle.group.proofs.wait.Goals as goal

pub returns-in_err-j : goal.returns-in_err-j
unfolding wait_answer
returns-in_err-j c =
    handed-on c.in_err-j.field-0.0 c.from_residual.result c.from_residual.ensures.1 (c.in_err-j.ensures.answers _)

pub returns-then-mask-test : goal.returns-then-mask-test
unfolding wait_answer
returns-then-mask-test c =
    let a = c.args in
    refused (no-test (asking a.mask a.test a.consume) c.if-mask-test.true _ ∙ c.in_ok-j.ensures.answers _) refl

pub returns-then-consume-gt1 : goal.returns-then-consume-gt1
unfolding wait_answer
returns-then-consume-gt1 c =
    let a = c.args in
    refused (no_consume (asking a.mask a.test a.consume) c.if-mask-test.false c.if-consume-gt1.true _ ∙ c.in_ok-j.ensures.answers _) refl

pub overflow_cast-asked : goal.overflow_cast-asked
overflow_cast-asked c =
    let a = c.args in omega (arith, few_tests a.mask a.test c.if-mask-test.false)

pub returns : goal.returns
unfolding wait_answer
returns c =
    let a = c.args in
    told (asks_rightly (asking a.mask a.test a.consume) c.if-mask-test.false c.if-consume-gt1.false _ ∙ c.in_ok-j.ensures.answers _) refl (rw c.in_ok-j.ensures.within.0 at c.take.ensures)
