use mathlib.Core.Path.{refl}
use Rattle.rules.specs.Channel.{wait_answer}
use Rattle.service.specs.Serving.{handed-on, told}
use Rattle.channel.proofs.wait.Goals as goal

pub returns-in_err-j : goal.returns-in_err-j
unfolding wait_answer
returns-in_err-j c =
    handed-on c.in_err-j.field-0.0 c.from_residual.result c.from_residual.ensures.1 (c.in_err-j.ensures.answers _)

pub returns : goal.returns
unfolding wait_answer
returns c =
    told (c.in_ok-j.ensures.answers _) refl (rw c.in_ok-j.ensures.within.0 at c.take.ensures)
