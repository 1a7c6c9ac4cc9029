use native.Mathlib.Omega.{arith}
use Rattle.table.proofs.Places.{left_queue}
use Rattle.table.proofs.moves.remove_in.Goals as goal

pub returns : goal.returns
returns c =
    let a = c.args in
    left_queue a.s.now a.q a.i c.remove.new.ids (omega arith) (omega arith) c.remove.ensures.1
