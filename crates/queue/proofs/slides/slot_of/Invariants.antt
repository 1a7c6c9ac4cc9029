use Rattle.queue.specs.Slots.{same}
use Rattle.queue.proofs.Scan.{Scanned}
use Rattle.queue.proofs.slides.slot_of.Given as goal

abbrev pub invariant-loop-i : goal.invariant-loop-i
invariant-loop-i l = Scanned (same l.v) l.ids l.i
