use mathlib.Core.Path.{ap, ◌∙◌}
use mathlib.Core.List.{List}
use Prim.Native.Nat.{ℕ}
use native.Mathlib.Omega.{arith}
use Rattle.queue.specs.Slots.{place_from, limit}
use Rattle.queue.specs.Slide.{lifted}
use Rattle.rules.specs.Table.{works, queue_of}
use Rattle.table.specs.Image.{view}
use Rattle.table.proofs.Places.{view-works, queue-lent}
use Rattle.laws.specs.queues.Put.{work_at}
use Rattle.table.proofs.moves.place_again.Goals as goal

pub returns : goal.returns
returns c =
    let a = c.args in
    let l : List ℕ = a.s.now in
    c.place_without.ensures
    ∙ rw (queue-lent l a.q (omega arith) (omega arith), ← view-works l (omega arith), work_at (view l) a.i)
    (ap (λ (key : ℕ). place_from (works (view l)) (limit a.ahead key) (lifted a.at (queue_of (view l) a.q))) c.get_work-key.ensures)
