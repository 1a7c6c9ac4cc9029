use mathlib.Core.Path.{◌≡◌}
use Prim.Native.Nat.{◌+◌, ◌*◌, ◌≤◌}
use lib.ListN.{drop}
use Rattle.queue.specs.Order.{count}
use Rattle.rules.specs.Table.{queue_of}
use Rattle.table.specs.Image.{view}
use Rattle.sound.specs.Packed.{of_seven}
use Rattle.sound.proofs.queues.free_in_seven.Given as goal

abbrev pub invariant-loop-j : goal.invariant-loop-j
invariant-loop-j l = (l.n ≤ 7 * l.j) × (l.n + of_seven (λ p. count 0 (drop l.j (queue_of (view l.s) p))) l.q ≡ of_seven (λ p. count 0 (queue_of (view l.s) p)) l.q)
