use native.Mathlib.Omega.{arith}
use Rattle.rules.specs.Table.{group_of}
use Rattle.table.specs.Image.{view}
use Rattle.sound.specs.Rows.{group_row}
use Rattle.sound.proofs.groups.is_right.Goals as goal

pub returns : goal.returns
returns c =
    let a = c.args in
    cc (group_row (group_of (view a.s.now) a.i) (omega arith))
