use native.Mathlib.Omega.{arith}
use Rattle.rules.specs.Table.{no_task}
use Rattle.table.specs.Image.{view}
use Rattle.table.specs.Settled.{free-nowhere, put-leaves}
use Rattle.table.proofs.moves.clear_task.Goals as goal

pub returns : goal.returns
returns c =
    let a = c.args in
    cc (put-leaves a.i no_task (view a.s.now) (omega arith) free-nowhere)
