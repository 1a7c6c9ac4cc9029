use mathlib.Core.Path.{◌∙◌}
use Rattle.table.specs.Image.{view}
use Rattle.object.proofs.Laws.{taken_none, taken_one}
use Rattle.object.proofs.take_now.Goals as goal

pub returns-then-i-ge-TASKS : goal.returns-then-i-ge-TASKS
returns-then-i-ge-TASKS c =
    taken_none (view c.args.s.now) c.caller_of-i.ensures.0 c.if-i-ge-TASKS.true

pub returns : goal.returns
returns c =
    c.set_outcome.ensures ∙ taken_one (view c.args.s.now) c.caller_of-i.ensures.0 c.if-i-ge-TASKS.false
