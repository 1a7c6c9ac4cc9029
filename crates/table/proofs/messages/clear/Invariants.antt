use Rattle.std.specs.Prelude.{[]}
use Rattle.table.specs.Image.{view}
use Rattle.table.proofs.Laid.{Laying}
use Rattle.table.proofs.messages.clear.Given as goal

abbrev pub invariant-loop-i : goal.invariant-loop-i
invariant-loop-i l = Laying l.c l.i [] (view l.initial.s) (view l.s)
