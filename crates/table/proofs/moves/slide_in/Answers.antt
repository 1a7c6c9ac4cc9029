use native.Mathlib.Omega.{arith}
use Rattle.table.proofs.Places.{rejoined_queue}
use Rattle.table.proofs.moves.slide_in.Goals as goal

pub returns : goal.returns
returns c =
    let a = c.args in
    rejoined_queue a.s.now a.q a.i c.slide.new.ids (omega arith) (omega arith) a.ahead a.at c.place_again-to.result c.requires.3 (omega arith) c.place_again-to.ensures c.slide.ensures
