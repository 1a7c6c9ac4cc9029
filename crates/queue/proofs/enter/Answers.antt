use mathlib.Core.Path.{◌∙◌, ap}
use Prim.Native.Nat.{ℕ, ◌+◌}
use Rattle.queue.specs.Slots.{place_from, limit, opened}
use Rattle.queue.proofs.enter.Goals as goal

pub returns : goal.returns
returns c =
    let a = c.args in
    let at = c.place_at-at.ensures ∙ ap (λ (k : ℕ). place_from a.keys.now (limit a.ahead k) a.ids.now) c.slot_or_free-key.ensures in
    c.«open».ensures.1 ∙ ap (λ (n : ℕ). opened n (a.id + 1) a.ids.now) at
