use mathlib.Core.Path.{sym, ◌∙◌}
use Rattle.table.specs.Image.{view}
use Rattle.table.specs.Settled.{settled_there, settled-moves}
use Rattle.table.proofs.moves.settle.Goals as goal

pub returns-then-q-new : goal.returns-then-q-new
returns-then-q-new c =
    let a = c.args in
    cc (settled_there a.q a.i (view a.s.now) (c.if-q-new.true ∙ c.place_of-new.ensures))

pub returns : goal.returns
returns c =
    let a = c.args in
    cc (settled-moves a.q a.i (view a.s.now) (λ e. c.if-q-new.false (e ∙ sym c.place_of-new.ensures)))
