use mathlib.Core.Path.{sym}
use Rattle.table.specs.Image.{view}
use Rattle.laws.specs.queues.Put.{rotate_out}
use Rattle.table.proofs.moves.rotate_task.Goals as goal

pub returns-then-i-ge-TASKS : goal.returns-then-i-ge-TASKS
returns-then-i-ge-TASKS c =
    let a = c.args in
    sym (rotate_out a.i (view a.s.now) c.if-i-ge-TASKS.true)
