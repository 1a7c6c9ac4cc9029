use mathlib.Core.Path.{◌∙◌}
use Rattle.table.specs.Image.{view}
use Rattle.channel.proofs.Laws.{delivered_none, delivered_one}
use Rattle.channel.proofs.deliver.Goals as goal

pub returns-then-i-ge-TASKS : goal.returns-then-i-ge-TASKS
returns-then-i-ge-TASKS c =
    let a = c.args in delivered_none a.i a.v (view a.s.now) c.if-i-ge-TASKS.true

pub returns : goal.returns
returns c =
    let a = c.args in c.set_message.ensures ∙ delivered_one a.i a.v (view a.s.now) c.if-i-ge-TASKS.false
