use Rattle.std.proofs.Common.{arith, ◌∙◌}
use borrow.Author.Tests.{le-leb}
use Rattle.table.specs.Shape.{view-shaped}
use Rattle.why.specs.Awaited.{no_count}
use Rattle.why.proofs.waits.is_empty.Goals as goal

pub returns-then-o-ge-SEMAPHORES : goal.returns-then-o-ge-SEMAPHORES
returns-then-o-ge-SEMAPHORES c =
    let a = c.args in le-leb _ _ (omega arith) ∙ no_count (view-shaped a.s.now (omega arith)) (omega arith)
