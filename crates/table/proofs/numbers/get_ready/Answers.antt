use mathlib.Core.Path.{◌∙◌}
use Rattle.table.specs.Numbers.{view-ready}
use Rattle.table.proofs.numbers.get_ready.Goals as goal

pub returns : goal.returns
returns c =
    c.get.ensures ∙ view-ready c.args.s.now
