use Rattle.queue.proofs.Turns.{Back}
use Rattle.queue.proofs.slides.slide_back.Given as goal

abbrev pub invariant-loop-j : goal.invariant-loop-j
invariant-loop-j l = Back l.from l.to l.v l.initial.ids l.j l.ids
