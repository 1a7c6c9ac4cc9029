use mathlib.Core.Path.{◌∙◌}
use Rattle.table.specs.Numbers.{view-running}
use Rattle.table.proofs.numbers.get_running.Goals as goal

pub returns : goal.returns
returns c =
    c.get.ensures ∙ view-running c.args.s.now
