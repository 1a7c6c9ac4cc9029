use Rattle.std.specs.Prelude.{drop}
use Rattle.rules.specs.Messages.{present}
use Rattle.table.specs.Image.{view}
use Rattle.table.proofs.Laid.{Laying}
use Rattle.table.proofs.messages.take_first.Given as goal

abbrev pub invariant-loop-i : goal.invariant-loop-i
invariant-loop-i l = Laying l.c l.i (drop 1 (present (view l.initial.s) l.c)) (view l.initial.s) (view l.s)
