use native.Mathlib.Omega.{arith}
use Rattle.table.proofs.Places.{joined-queue}
use Rattle.table.proofs.moves.insert_in.Goals as goal

pub returns : goal.returns
returns c =
    let a = c.args in
    joined-queue a.s.now a.q a.i c.«open».new.ids (omega arith) (omega arith) a.ahead c.place_in-at.result c.place_in-at.ensures c.«open».ensures.1
