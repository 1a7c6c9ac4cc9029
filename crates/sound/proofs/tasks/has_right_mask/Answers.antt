use native.Mathlib.Omega.{arith}
use Rattle.rules.specs.Table.{task_of}
use Rattle.table.specs.Image.{view}
use Rattle.sound.specs.Rows.{mask-row}
use Rattle.sound.proofs.tasks.has_right_mask.Goals as goal

pub returns : goal.returns
returns c =
    let a = c.args in
    cc (mask-row (task_of (view a.s.now) a.i) (omega arith))
