use native.Mathlib.Omega.{arith}
use Rattle.table.specs.Image.{view}
use Rattle.table.specs.Shape.{view-shaped}
use Rattle.table.proofs.Places.{moved-again}
use Rattle.table.proofs.moves.move_in.Goals as goal

pub returns : goal.returns
returns c =
    let a = c.args in
    moved-again a.q a.i (view a.s.now) _ _ (omega arith) (view-shaped a.s.now (omega arith)).queues c.remove_in.ensures c.insert_in.ensures
