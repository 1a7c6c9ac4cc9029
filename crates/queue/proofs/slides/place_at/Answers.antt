use mathlib.Core.Path.{ap, sym, ◌∙◌}
use mathlib.Core.Bool.{Bool}
use Rattle.queue.specs.Slots.{place_from, limit}
use Rattle.queue.proofs.slides.place_at.Goals as goal

pub returns-then-ahead : goal.returns-then-ahead
returns-then-ahead c =
    let a = c.args in
    c.place_before.ensures ∙ ap (λ (b : Bool). place_from a.keys.now (limit b a.key) a.ids.now) (sym c.if-ahead.true)

pub returns : goal.returns
returns c =
    let a = c.args in
    c.place_behind.ensures ∙ ap (λ (b : Bool). place_from a.keys.now (limit b a.key) a.ids.now) (sym c.if-ahead.false)
