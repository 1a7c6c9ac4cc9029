use Rattle.std.proofs.Common.{rules}
use mathlib.Core.Path.{refl, ◌∙◌}
use native.Mathlib.Omega.{arith}
use Rattle.rules.specs.Object.{object_create_answer}
use Rattle.object.specs.Answers.{create-range}
use Rattle.object.proofs.may_create.Goals as goal

pub returns-in_err-create_answer-clause-answers : goal.returns-in_err-create_answer-clause-answers
unfolding object_create_answer
returns-in_err-create_answer-clause-answers g c =
    let e = rw (c.COUNT.ensures ∙ g.met.K.Kind.count_is, c.used_at.ensures) at c.in_err-create_answer.ensures in
    search rules

pub returns-clause-answers : goal.returns-clause-answers
unfolding object_create_answer
returns-clause-answers g c =
    rw (c.COUNT.ensures ∙ g.met.K.Kind.count_is, c.used_at.ensures) at c.in_ok-create_answer.ensures

pub returns-clause-within : goal.returns-clause-within
returns-clause-within g c =
    let low = create-range c.COUNT.result c.args.i c.used_at.result c.in_ok-create_answer.ensures refl refl in
    (refl, omega (arith, low, c.COUNT.ensures, g.met.K.Kind.count_is))
