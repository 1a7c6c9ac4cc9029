use mathlib.Core.Path.{refl}
use Rattle.service.specs.Serving.{handed-on, served}
use Rattle.object.proofs.wait_for.Goals as goal

pub returns-in_err-block_answer : goal.returns-in_err-block_answer
returns-in_err-block_answer c =
    handed-on c.in_err-block_answer.field-0.0 c.from_residual.result c.from_residual.ensures.1 c.in_err-block_answer.ensures

pub returns : goal.returns
returns c =
    served c.in_ok-block_answer.ensures refl (cc)
