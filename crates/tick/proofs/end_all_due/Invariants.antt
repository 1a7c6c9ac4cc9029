use Rattle.std.proofs.Common.{◌≡◌}
use Rattle.rules.specs.Tick.{due_below}
use Rattle.table.specs.Image.{view}
use Rattle.tick.proofs.end_all_due.Given as goal

abbrev pub invariant-loop-i : goal.invariant-loop-i
invariant-loop-i l = view l.s ≡ due_below l.i (view l.initial.s)
