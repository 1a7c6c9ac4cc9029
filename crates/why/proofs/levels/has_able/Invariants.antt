use Rattle.std.proofs.Common.{◌≡◌}
use Rattle.table.specs.Image.{view}
use Rattle.why.specs.Tests.{has_able}
use Rattle.why.proofs.levels.has_able.Given as goal

abbrev pub invariant-loop-i : goal.invariant-loop-i
invariant-loop-i l = l.found ≡ has_able l.i l.l (view l.s)
