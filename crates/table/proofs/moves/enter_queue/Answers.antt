use mathlib.Core.Path.{sym}
use native.Mathlib.Omega.{arith}
use Rattle.table.specs.Image.{view}
use Rattle.table.specs.Settled.{join_none}
use Rattle.table.proofs.Places.{joins}
use Rattle.table.proofs.moves.enter_queue.Goals as goal

pub returns-then-q-ge-QUEUES : goal.returns-then-q-ge-QUEUES
returns-then-q-ge-QUEUES c =
    let a = c.args in
    sym (join_none a.q a.i (view a.s.now) a.ahead c.if-q-ge-QUEUES.true)

pub returns : goal.returns
returns c =
    let a = c.args in
    joins a.q a.i (view a.s.now) _ _ (omega arith) a.ahead c.insert_in.ensures c.add_in.ensures
