-- How many of the first numbers pass a test.
use Rattle.std.specs.Prelude.{◌≡◌, ◌≢◌, Bool, true, false}
use Rattle.std.proofs.Math.Path.{refl, ap}
use Rattle.std.proofs.Common.{sym, ◌∙◌, eq-or-lt_of_le, le_of_suc-le-suc, arith}
use Rattle.std.proofs.Math.Logic.{⊎_elim}
use Prim.Native.Nat.{ℕ, zero, suc, ◌+◌, ◌≤◌, ◌<◌}
use Rattle.rules.specs.Sound.{once}
use Rattle.rules.proofs.Tested.{once_most}

-- How many of the first n pass the test.
unfoldable pub tally : (ℕ → Bool) → ℕ → ℕ
tally p zero = 0
tally p (suc n) = once (p n) + tally p n

pub tally_most : (p : ℕ → Bool) (n : ℕ) → tally p n ≤ n
unfolding tally
tally_most p zero = omega arith
tally_most p (suc n) = omega (arith, once_most (p n), tally_most p n)

pub tally_some : (p : ℕ → Bool) (i n : ℕ) → i < n → p i ≡ true → 1 ≤ tally p n
unfolding tally
tally_some p i zero l e = absurd (omega arith)
tally_some p i (suc n) l e =
    ⊎_elim (λ z. omega (arith, ap once (sym (ap p z) ∙ e))) (λ m. omega (arith, tally_some p i n m e)) (eq-or-lt_of_le (le_of_suc-le-suc l))

-- Two that pass count twice.
pub tally_two : (p : ℕ → Bool) (i j n : ℕ) → i < j → j < n → p i ≡ true → p j ≡ true → 2 ≤ tally p n
unfolding tally
tally_two p i j zero d l e f = absurd (omega arith)
tally_two p i j (suc n) d l e f =
    ⊎_elim
    (λ z. omega (arith, tally_some p i n (omega arith) e, ap once (sym (ap p z) ∙ f)))
    (λ m. omega (arith, tally_two p i j n d m e f))
    (eq-or-lt_of_le (le_of_suc-le-suc l))

module _ (p r : ℕ → Bool) (i : ℕ) (others : (j : ℕ) → j ≢ i → r j ≡ p j) where
  tally_same : (n : ℕ) → n ≤ i → tally r n ≡ tally p n
  unfolding tally
  tally_same zero l = refl
  tally_same (suc n) l = omega (arith, ap once (others n (λ e. omega arith)), tally_same n (omega arith))

  -- One fewer, where i passed before and no longer does.
  pub tally_less : (n : ℕ) → i < n → p i ≡ true → r i ≡ false → tally r n < tally p n
  unfolding tally
  tally_less zero l was is = absurd (omega arith)
  tally_less (suc n) l was is =
      ⊎_elim
      (λ e. omega (arith, tally_same n (omega arith), ap once (sym (ap p e) ∙ was), ap once (sym (ap r e) ∙ is)))
      (λ m. omega (arith, tally_less n m was is, ap once (others n (λ e. omega arith))))
      (eq-or-lt_of_le (le_of_suc-le-suc l))
