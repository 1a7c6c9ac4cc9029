use Prim.Native.Nat.{◌-◌, ◌≤◌}
use Rattle.rules.specs.Table.{queue_count}
use Rattle.table.specs.Image.{view}
use Rattle.sound.specs.Walks.{Passing}
use Rattle.sound.proofs.walk.walk_queues.Given as goal

abbrev pub invariant-loop-q : goal.invariant-loop-q
invariant-loop-q l = (l.from ≤ queue_count) × Passing (view l.s) l.initial.spots l.from l.spots l.n

abbrev pub decreases-loop-q : goal.decreases-loop-q
decreases-loop-q l = queue_count - l.from
