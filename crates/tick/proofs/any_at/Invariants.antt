use Rattle.std.proofs.Common.{◌≡◌}
use Rattle.table.specs.Image.{view}
use Rattle.tick.specs.Marks.{some_at}
use Rattle.tick.proofs.any_at.Given as goal

abbrev pub invariant-loop-i : goal.invariant-loop-i
invariant-loop-i l = l.any ≡ some_at l.i l.at (view l.s)
