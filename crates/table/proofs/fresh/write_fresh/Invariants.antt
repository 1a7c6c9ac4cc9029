use Rattle.table.specs.Shape.{Written}
use Rattle.table.proofs.fresh.write_fresh.Given as goal

abbrev pub invariant-loop-i : goal.invariant-loop-i
invariant-loop-i l = Written l.i l.s
