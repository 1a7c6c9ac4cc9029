use mathlib.Core.Path.{ap, ◌∙◌}
use Prim.Native.Nat.{ℕ}
use Rattle.queue.specs.Slots.{place_from, limit}
use Rattle.queue.specs.Slide.{lifted, slid-within, moved-packed}
use Rattle.queue.proofs.move_from.Goals as goal

pub returns : goal.returns
returns c =
    let a = c.args in
    let to = c.place_without-to.result in
    let is = c.place_without-to.ensures ∙ ap (λ (k : ℕ). place_from a.keys.now (limit a.ahead k) (lifted a.at a.ids.now)) c.slot_or_free-key.ensures in
    let r = moved-packed a.id a.at a.ids.now c.requires.2 c.requires.1 a.ahead a.keys.now to is in
    c.slide.ensures ∙ slid-within a.at to _ a.ids.now c.requires.1 r.0 ∙ r.1
