use Rattle.rules.specs.Table.{queue_of, works}
use Rattle.table.specs.Image.{view}
use Rattle.sound.proofs.Turns.{Turn}
use Rattle.sound.proofs.walk.walk_queue.Given as goal

abbrev pub invariant-loop-j : goal.invariant-loop-j
invariant-loop-j l = Turn (works (view l.s)) (queue_of (view l.s) l.q) l.initial.spots l.q l.key l.spots l.j
