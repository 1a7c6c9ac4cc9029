use Prim.Native.Nat.{◌-◌}
use lib.ListN.{length}
use Rattle.queue.proofs.Shift.{Closing}
use Rattle.queue.proofs.shifts.close_nines.Given as goal

abbrev pub invariant-loop-e : goal.invariant-loop-e
invariant-loop-e l = Closing l.at l.initial.ids l.j l.ids

abbrev pub decreases-loop-e : goal.decreases-loop-e
decreases-loop-e l = length l.initial.ids - l.j
