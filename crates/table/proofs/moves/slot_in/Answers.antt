use mathlib.Core.Path.{sym}
use native.Mathlib.Omega.{arith}
use Rattle.table.specs.Queues.{view-slot}
use Rattle.table.proofs.moves.slot_in.Goals as goal

pub returns : goal.returns
returns c =
    let a = c.args in sym (view-slot a.s.now (omega arith) a.q (omega arith) a.j (omega arith))
