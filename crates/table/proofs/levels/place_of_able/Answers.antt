use mathlib.Core.Path.{◌≡◌, ap, ◌∙◌}
use Prim.Native.Nat.{◌+◌}
use native.Mathlib.Omega.{arith}
use Rattle.queue.specs.Slots.{first_at, same, place_of}
use Rattle.queue.specs.Slide.{first_most}
use Rattle.rules.specs.Table.{able_queue, queue_of}
use Rattle.table.specs.Image.{view}
use Rattle.table.specs.Queues.{view-slots}
use Rattle.table.proofs.Places.{queue-lent}
use Rattle.table.proofs.levels.place_of_able.Goals as goal

pub returns : goal.returns
returns c =
    let a = c.args in
    let e : c.slot_of.result ≡ place_of a.id (queue_of (view a.s.now) able_queue) = c.slot_of.ensures ∙ ap (first_at (same (a.id + 1))) (queue-lent a.s.now able_queue (omega arith) (omega arith)) in
    (e, omega (arith, first_most (same (a.id + 1)) (queue_of (view a.s.now) able_queue), view-slots a.s.now (omega arith) able_queue (omega arith)))
