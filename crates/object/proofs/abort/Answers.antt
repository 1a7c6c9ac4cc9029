use mathlib.Core.Path.{◌∙◌}
use Rattle.rules.specs.Object.{object_abort_answer, object_abort}
use Rattle.object.proofs.abort.Goals as goal

pub returns : goal.returns
unfolding object_abort_answer object_abort
returns g c =
    rw (c.COUNT.ensures ∙ g.met.K.Kind.count_is, c.FIRST.ensures ∙ g.met.K.Kind.first_is, c.used_at-used.ensures) at c.abort_object.ensures
