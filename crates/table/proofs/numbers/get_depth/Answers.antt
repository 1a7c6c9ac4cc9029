use mathlib.Core.Path.{◌∙◌}
use Rattle.table.specs.Numbers.{view-depth}
use Rattle.table.proofs.numbers.get_depth.Goals as goal

pub returns : goal.returns
returns c =
    c.get.ensures ∙ view-depth c.args.s.now
