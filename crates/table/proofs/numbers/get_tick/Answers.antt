use mathlib.Core.Path.{◌∙◌}
use Rattle.table.specs.Numbers.{view-tick}
use Rattle.table.proofs.numbers.get_tick.Goals as goal

pub returns : goal.returns
returns c =
    c.get.ensures ∙ view-tick c.args.s.now
