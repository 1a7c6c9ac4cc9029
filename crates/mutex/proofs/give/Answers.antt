use mathlib.Core.Path.{◌≡◌, ap, ◌∙◌}
use Rattle.rules.specs.Move.{chosen}
use Rattle.rules.specs.Mutex.{post}
use Rattle.table.specs.Image.{view}
use Rattle.mutex.proofs.Laws.{post_keeps, post_releases}
use Rattle.mutex.proofs.give.Goals.{then-n-gt1, else-n-gt1}
use Rattle.mutex.proofs.give.Goals as goal

pub returns : goal.returns
returns c =
    let i = c.args.i in
    let t = view c.args.s.now in
    let made : view c.if-n-gt1.s ≡ post i t = elim c.if-n-gt1.branch [
      | then-n-gt1 w ↦ ap view w.s-is ∙ w.set_hold.ensures ∙ post_keeps i t c.get_nesting-n.ensures w.get_holder-holder.ensures w.if-n-gt1.true
      | else-n-gt1 w ↦ ap view w.s-is ∙ w.release.ensures ∙ post_releases i t c.get_nesting-n.ensures w.if-n-gt1.false
    ] in
    c.choose.ensures ∙ ap chosen made
