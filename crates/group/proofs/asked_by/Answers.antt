use native.Mathlib.Omega.{arith}
use Rattle.table.specs.Image.{view}
use Rattle.table.specs.Shape.{view-shaped}
use Rattle.group.proofs.Laws.{nobody-asks}
use Rattle.group.proofs.asked_by.Goals as goal

pub returns-then-w-ge-TASKS : goal.returns-then-w-ge-TASKS
returns-then-w-ge-TASKS c =
    nobody-asks (view-shaped c.args.s.now (omega arith)) c.args.w c.if-w-ge-TASKS.true

pub returns : goal.returns
returns c =
    rw (c.get_mask.ensures, c.get_test.ensures, c.get_consume.ensures)
