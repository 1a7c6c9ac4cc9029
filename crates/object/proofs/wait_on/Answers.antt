use mathlib.Core.Path.{◌∙◌}
use Rattle.rules.specs.Object.{waits}
use Rattle.object.proofs.wait_on.Goals as goal

pub returns : goal.returns
unfolding waits
returns g c =
    rw (c.STATE.ensures ∙ g.met.K.Kind.state_is, c.get_holder-holder.ensures) at c.wait_for.ensures
