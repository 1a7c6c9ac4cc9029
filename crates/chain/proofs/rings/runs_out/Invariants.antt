use Rattle.std.proofs.Common.{◌≡◌, ◌-◌}
use Rattle.rules.specs.Chain.{after}
use Rattle.rules.specs.Move.{next}
use Rattle.laws.specs.local.Walk.{most}
use Rattle.table.specs.Image.{view}
use Rattle.chain.proofs.rings.runs_out.Given as goal

abbrev pub invariant-loop : goal.invariant-loop
invariant-loop l = after (next (view l.s)) most l.j ≡ after (next (view l.s)) (most - l.counter) l.at
