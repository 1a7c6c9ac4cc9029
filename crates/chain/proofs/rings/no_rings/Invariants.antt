use Rattle.std.proofs.Common.{◌≡◌, true}
use Rattle.rules.specs.Move.{next}
use Rattle.laws.specs.local.Local.{ringless}
use Rattle.laws.specs.local.Walk.{most}
use Rattle.table.specs.Image.{view}
use Rattle.chain.proofs.rings.no_rings.Given as goal

abbrev pub invariant-loop-j : goal.invariant-loop-j
invariant-loop-j l = ringless 32 (next (view l.s)) most l.j ≡ true
