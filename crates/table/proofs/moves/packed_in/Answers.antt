use mathlib.Core.Path.{ap, ◌∙◌}
use Prim.Native.Nat.{◌+◌}
use native.Mathlib.Omega.{arith}
use Rattle.queue.specs.Slide.{packed_at}
use Rattle.table.proofs.Places.{queue-lent}
use Rattle.table.proofs.moves.packed_in.Goals as goal

pub returns : goal.returns
returns c =
    let a = c.args in
    c.find_packed.ensures ∙ ap (packed_at (a.i + 1)) (queue-lent a.s.now a.q (omega arith) (omega arith))
