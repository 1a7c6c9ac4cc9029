use Rattle.queue.proofs.Shift.{Opening}
use Rattle.queue.proofs.shifts.open_each.Given as goal

abbrev pub invariant-loop-j : goal.invariant-loop-j
invariant-loop-j l = Opening l.at l.v l.initial.ids l.j l.carry l.ids
