use mathlib.Core.Path.{◌≡◌, sym, ap, ◌∙◌}
use Prim.Native.Nat.{ℕ, ◌+◌, ◌-◌}
use native.Mathlib.Omega.{arith}
use Rattle.queue.specs.Slots.{place_from}
use Rattle.queue.specs.Stable.{front_place}
use Rattle.queue.proofs.place_before.Goals as goal

pub returns-then-key-eq0 : goal.returns-then-key-eq0
returns-then-key-eq0 c =
    let a = c.args in
    sym (ap (λ (n : ℕ). place_from a.keys.now n a.ids.now) c.if-key-eq0.true ∙ front_place a.keys.now a.ids.now)

pub returns : goal.returns
returns c =
    let a = c.args in
    let whole : a.key - 1 + 1 ≡ a.key = omega (arith, c.if-key-eq0.false) in
    c.place_behind.ensures ∙ ap (λ (n : ℕ). place_from a.keys.now n a.ids.now) whole
