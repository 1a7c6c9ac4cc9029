use Prim.Native.Nat.{◌+◌}
use Rattle.queue.specs.Slots.{from}
use Rattle.queue.proofs.Scan.{Scanned}
use Rattle.queue.proofs.place_behind.Given as goal

abbrev pub invariant-loop-i : goal.invariant-loop-i
invariant-loop-i l = Scanned (from l.keys (l.key + 1)) l.ids l.i
