use Rattle.std.proofs.Common.{◌≡◌, ◌+◌, ◌≤◌, drop}
use Rattle.queue.specs.Order.{count}
use Rattle.rules.specs.Table.{queue_of}
use Rattle.table.specs.Image.{view}
use Rattle.why.proofs.queues.count_in.Given as goal

abbrev pub invariant-loop-j : goal.invariant-loop-j
invariant-loop-j l = (l.n ≤ l.j) × (l.n + count l.v (drop l.j (queue_of (view l.s) l.q)) ≡ count l.v (queue_of (view l.s) l.q))
