use Rattle.queue.proofs.Turns.{On}
use Rattle.queue.proofs.slides.slide_on.Given as goal

abbrev pub invariant-loop-j : goal.invariant-loop-j
invariant-loop-j l = On l.from l.to l.v l.initial.ids l.j l.ids
