use Rattle.rules.specs.Table.{mutex_of}
use Rattle.table.specs.Image.{view}
use Rattle.sound.specs.Rows.{mutex-row}
use Rattle.sound.proofs.mutexes.is_right.Goals as goal

pub returns : goal.returns
returns c =
    let a = c.args in
    cc (mutex-row (mutex_of (view a.s.now) a.i))
