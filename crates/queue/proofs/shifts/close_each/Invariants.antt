use Rattle.queue.proofs.Shift.{Closing}
use Rattle.queue.proofs.shifts.close_each.Given as goal

abbrev pub invariant-loop-j : goal.invariant-loop-j
invariant-loop-j l = Closing l.at l.initial.ids l.j l.ids
