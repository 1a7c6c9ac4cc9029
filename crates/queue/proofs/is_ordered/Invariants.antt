use Rattle.queue.proofs.Check.{Checked}
use Rattle.queue.proofs.is_ordered.Given as goal

abbrev pub invariant-loop-j : goal.invariant-loop-j
invariant-loop-j l = Checked l.keys l.ids l.j
