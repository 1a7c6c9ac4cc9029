use mathlib.Core.Path.{◌≡◌, sym, ◌∙◌}
use Rattle.table.specs.Image.{view}
use Rattle.table.proofs.Places.{chosen_is, chosen_not}
use Rattle.table.proofs.moves.choose.Goals as goal

pub returns-then-d-eq0 : goal.returns-then-d-eq0
returns-then-d-eq0 c =
    let t = view c.args.s.now in
    let h : t.depth ≡ 0 = cc in
    cc (chosen_is t h)

pub returns-else-d-eq0 : goal.returns-else-d-eq0
returns-else-d-eq0 c =
    let t = view c.args.s.now in
    sym (chosen_not t (λ e. c.if-d-eq0.false (c.get_depth-d.ensures ∙ e)))
