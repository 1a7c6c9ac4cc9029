use Rattle.rules.specs.Table.{task_of}
use Rattle.table.specs.Image.{view}
use Rattle.why.specs.Zeros.{free-task}
use Rattle.why.proofs.tasks.is_free_right.Goals as goal

pub returns : goal.returns
returns c =
    let a = c.args in cc (free-task (task_of (view a.s.now) a.i))
