use mathlib.Core.Path.{◌∙◌}
use Rattle.table.specs.Image.{view}
use Rattle.mutex.proofs.Laws.{handed_some}
use Rattle.mutex.proofs.hand_to.Goals as goal

pub returns : goal.returns
returns c =
    let a = c.args in
    c.stand_ready.ensures ∙ handed_some a.i (view a.s.now) a.w _ c.set_hold.ensures
