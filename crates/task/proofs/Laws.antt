-- Whether a task holds a mutex, mutex by mutex.
use mathlib.Core.Path.{◌≡◌, refl, ap, ◌∙◌}
use mathlib.Core.Bool.{Bool, true, false, cond}
use mathlib.Core.Logic.{◌⊎◌, inl, inr}
use Prim.Native.Nat.{ℕ, zero, suc, ◌+◌, ◌≤◌, ◌<◌}
use native.Mathlib.Nat.{not-suc-le-zero, le_antisymm}
use native.Mathlib.Numerals.{add-one}
use native.Mathlib.Omega.{arith}
use lib.Dec.{eqb}
use borrow.Author.Tests.{eq-eqb, ne_eqb}
use Rattle.rules.specs.Table.{Table, mutex_of, written}
use Rattle.rules.specs.Task.{holds_below}
use Rattle.rules.specs.Afresh.{lt_or_le}

still_true : (b x : Bool) → true ≡ x → true ≡ cond b true x
still_true true x e = refl
still_true false x e = e

module _ (i : ℕ) (t : Table) where
  pub holds_none : holds_below 0 i t ≡ false
  unfolding holds_below
  holds_none = refl

  pub holds_later : (m : ℕ) → ((mutex_of t m).holder ≡ written i → ⊥) → holds_below m i t ≡ false → holds_below (m + 1) i t ≡ false
  unfolding holds_below
  holds_later m d e = rw (add-one m, holds_below, ne_eqb _ _ d) e

  pub holds-found : (n m : ℕ) → m < n → (mutex_of t m).holder ≡ written i → true ≡ holds_below n i t
  unfolding holds_below
  holds-found zero m h e = absurd (not-suc-le-zero h)
  holds-found (suc n) m h e = go (lt_or_le m n) (λ p. holds-found n m p e)
    where
      go : (m < n) ⊎ (n ≤ m) → (m < n → true ≡ holds_below n i t) → true ≡ cond (eqb (mutex_of t n).holder (written i)) true (holds_below n i t)
      go (inl p) f = still_true (eqb (mutex_of t n).holder (written i)) _ (f p)
      go (inr p) f = rw (eq-eqb _ _ (ap (λ (z : ℕ). (mutex_of t z).holder) (le_antisymm p (omega arith)) ∙ e))
