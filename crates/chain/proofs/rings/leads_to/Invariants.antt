use Rattle.std.proofs.Common.{◌≡◌, ◌-◌}
use Rattle.rules.specs.Chain.{leads}
use Rattle.rules.specs.Move.{next}
use Rattle.table.specs.Image.{view}
use Rattle.chain.proofs.rings.leads_to.Given as goal

abbrev pub invariant-loop : goal.invariant-loop
invariant-loop l = leads 32 (next (view l.s)) 32 l.h l.c ≡ leads 32 (next (view l.s)) (32 - l.counter) l.at l.c
