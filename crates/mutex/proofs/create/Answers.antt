use mathlib.Core.Path.{refl, ap, ◌∙◌}
use Rattle.rules.specs.Move.{chosen}
use Rattle.rules.specs.Mutex.{create}
use Rattle.service.specs.Serving.{served}
use Rattle.mutex.proofs.create.Goals as goal

pub returns : goal.returns
unfolding create
returns c =
    served c.in_ok-j.ensures.answers refl (c.choose.ensures ∙ ap chosen (rw c.in_ok-j.ensures.within.0 at c.store.ensures))
