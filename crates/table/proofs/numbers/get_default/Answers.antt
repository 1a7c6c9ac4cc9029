use mathlib.Core.Path.{◌∙◌}
use Rattle.table.specs.Numbers.{view_default}
use Rattle.table.proofs.numbers.get_default.Goals as goal

pub returns : goal.returns
returns c =
    c.get.ensures ∙ view_default c.args.s.now
