use native.Mathlib.Omega.{arith}
use Rattle.rules.specs.Table.{semaphore_of}
use Rattle.table.specs.Image.{view}
use Rattle.sound.specs.Rows.{semaphore_row}
use Rattle.sound.proofs.semaphores.is_right.Goals as goal

pub returns : goal.returns
returns c =
    let a = c.args in
    cc (semaphore_row (semaphore_of (view a.s.now) a.i) (omega arith))
