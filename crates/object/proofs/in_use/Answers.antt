use mathlib.Core.Path.{refl}
use native.Mathlib.Omega.{arith}
use Rattle.rules.specs.Sizes.{done}
use Rattle.object.specs.Answers.{object-range}
use Rattle.object.proofs.in_use.Goals as goal

pub returns-clause-within : goal.returns-clause-within
returns-clause-within g c =
    let low = object-range c.COUNT.result c.args.i c.used_at.result done (c.in_ok-use_answer.ensures done) refl refl in
    (refl, omega (arith, low, c.COUNT.ensures, g.met.K.Kind.count_is))
