use Rattle.std.proofs.Common.{◌||◌, ◌∙◌, ap₂}
use Rattle.tick.proofs.Laws.{some_none, some_next}
use Rattle.tick.proofs.any_at.Goals as goal

pub loop-i-init : goal.loop-i-init
loop-i-init c =
    some_none _ _

pub loop-i-preserved : goal.loop-i-preserved
loop-i-preserved c =
    ap₂ ◌||◌ c.is_at-any.ensures c.loop-i.invariant ∙ some_next c.loop-i.i _ _
