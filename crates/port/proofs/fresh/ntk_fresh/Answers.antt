use Rattle.std.proofs.Common.{arith}
use Rattle.port.proofs.Laws.{fresh_right}
use Rattle.port.proofs.fresh.ntk_fresh.Goals as goal

pub returns : goal.returns
returns c =
    fresh_right c.in-Some.ensures.cases.long (omega (arith, c.in-Some.ensures.cases.long)) (λ j. omega (arith, c.type_inv.image j)) c.write_fresh.ensures
