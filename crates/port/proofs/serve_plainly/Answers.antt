use Rattle.std.proofs.Common.{ap}
use Rattle.service.specs.Told.{answer_in, further_in}
use Rattle.port.proofs.Laws.{gives-answered}
use Rattle.port.proofs.serve_plainly.Goals as goal

pub returns : goal.returns
returns c =
    gives-answered (c.serve_kind-n.ensures c.answered.ensures.2) (ap answer_in c.answered.ensures.0) c.answered.ensures.1 (ap further_in c.answered.ensures.0)
