use mathlib.Core.Path.{◌≡◌}
use Prim.Native.Nat.{◌+◌, ◌≤◌}
use lib.ListN.{drop}
use Rattle.queue.specs.Order.{count}
use Rattle.rules.specs.Table.{queue_of, able_queue}
use Rattle.table.specs.Image.{view}
use Rattle.sound.proofs.queues.free_in_able.Given as goal

abbrev pub invariant-loop-j : goal.invariant-loop-j
invariant-loop-j l = (l.n ≤ l.j) × (l.n + count 0 (drop l.j (queue_of (view l.s) able_queue)) ≡ count 0 (queue_of (view l.s) able_queue))
