use mathlib.Core.Path.{◌∙◌}
use native.Mathlib.Omega.{arith}
use Rattle.table.specs.Messages.{view-message}
use Rattle.table.proofs.channels.get_message_at.Goals as goal

pub returns : goal.returns
returns c =
    let a = c.args in
    c.get.ensures ∙ view-message a.s.now a.i (omega arith) a.j (omega arith)
