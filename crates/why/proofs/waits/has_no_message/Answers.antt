use Rattle.std.proofs.Common.{arith, ◌∙◌}
use borrow.Author.Tests.{le-leb}
use Rattle.table.specs.Shape.{view-shaped}
use Rattle.why.specs.Awaited.{no_message}
use Rattle.why.proofs.waits.has_no_message.Goals as goal

pub returns-then-o-ge-CHANNELS : goal.returns-then-o-ge-CHANNELS
returns-then-o-ge-CHANNELS c =
    let a = c.args in le-leb _ _ (omega arith) ∙ no_message (view-shaped a.s.now (omega arith)) (omega arith)
