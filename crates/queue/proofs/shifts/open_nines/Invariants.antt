use Prim.Native.Nat.{◌-◌}
use lib.ListN.{length}
use Rattle.queue.proofs.Shift.{Opening}
use Rattle.queue.proofs.shifts.open_nines.Given as goal

abbrev pub invariant-loop-e : goal.invariant-loop-e
invariant-loop-e l = Opening l.at l.v l.initial.ids l.j l.carry l.ids

abbrev pub decreases-loop-e : goal.decreases-loop-e
decreases-loop-e l = length l.initial.ids - l.j
