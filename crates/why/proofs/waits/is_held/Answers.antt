use Rattle.std.proofs.Common.{arith, ◌∙◌}
use borrow.Author.Tests.{le-ltb}
use Rattle.table.specs.Shape.{view-shaped}
use Rattle.why.specs.Awaited.{no_holder}
use Rattle.why.proofs.waits.is_held.Goals as goal

pub returns-else-o-lt-MUTEXES : goal.returns-else-o-lt-MUTEXES
returns-else-o-lt-MUTEXES c =
    let a = c.args in le-ltb _ _ (omega arith) ∙ no_holder (view-shaped a.s.now (omega arith)) (omega arith)
