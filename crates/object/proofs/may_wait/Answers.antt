use mathlib.Core.Path.{refl, ◌∙◌}
use Rattle.rules.specs.Sizes.{done}
use Rattle.table.specs.Image.{view}
use Rattle.object.specs.Answers.{asked-range}
use Rattle.object.proofs.may_wait.Goals as goal

pub returns-clause-within : goal.returns-clause-within
returns-clause-within g c =
    let a = c.args in
    (refl, asked-range g.K.Kind.family a.i a.block (view a.s.now) c.used_at.ensures (rw (c.COUNT.ensures ∙ g.met.K.Kind.count_is) at c.in_ok-ask_answer.ensures done) refl refl)
