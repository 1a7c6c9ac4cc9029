use Rattle.table.specs.Image.{view}
use Rattle.sound.specs.Rows.{tasks-rows}
use Rattle.sound.proofs.tasks.are_tasks_right.Goals as goal

pub returns : goal.returns
returns c =
    cc (tasks-rows (view c.args.s.now))
