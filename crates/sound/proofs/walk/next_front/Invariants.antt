use Rattle.table.specs.Image.{view}
use Rattle.sound.specs.Walks.{EmptyTo}
use Rattle.sound.proofs.walk.next_front.Given as goal

abbrev pub invariant-loop-at : goal.invariant-loop-at
invariant-loop-at l = EmptyTo (view l.s) l.q l.at
