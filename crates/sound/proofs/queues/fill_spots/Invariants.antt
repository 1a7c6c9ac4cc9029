use Rattle.table.specs.Image.{view}
use Rattle.sound.specs.Queues.{Spotted}
use Rattle.sound.proofs.queues.fill_spots.Given as goal

abbrev pub invariant-loop-i : goal.invariant-loop-i
invariant-loop-i l = Spotted (view l.s) l.i l.spots
