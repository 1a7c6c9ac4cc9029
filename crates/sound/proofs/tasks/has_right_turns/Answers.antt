use native.Mathlib.Omega.{arith}
use Rattle.rules.specs.Table.{task_of}
use Rattle.table.specs.Image.{view}
use Rattle.sound.specs.Rows.{turns-row}
use Rattle.sound.proofs.tasks.has_right_turns.Goals as goal

pub returns : goal.returns
returns c =
    let a = c.args in
    cc (turns-row (task_of (view a.s.now) a.i) (omega arith) (omega arith))
