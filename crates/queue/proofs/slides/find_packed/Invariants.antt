use Rattle.queue.proofs.Place.{Sought}
use Rattle.queue.proofs.slides.find_packed.Given as goal

abbrev pub invariant-loop-i : goal.invariant-loop-i
invariant-loop-i l = Sought l.v l.ids l.i
