-- A test of each number below n.
use Rattle.std.specs.Prelude.{◌≡◌, refl, Bool, true, false, ◌&&◌, ℕ, zero, suc, ◌<◌}
use Rattle.std.proofs.lemmas.Bool.{false≢true}
use Rattle.std.proofs.Math.Decide.{ℕ_discrete}
use Rattle.std.proofs.Common.{not-suc-le-zero, arith}

unfoldable pub every : ℕ → (ℕ → Bool) → Bool
every zero p = true
every (suc n) p = p n && every n p

pub every_at : (p : ℕ → Bool) (n : ℕ) → every n p ≡ true → (i : ℕ) → i < n → p i ≡ true
unfolding every
every_at p zero e i h = absurd (not-suc-le-zero h)
every_at p (suc n) e i h = go (p n) refl e (every_at p n) (ℕ_discrete i n)
  where
    go : (b : Bool) → p n ≡ b → b && every n p ≡ true → (every n p ≡ true → (i : ℕ) → i < n → p i ≡ true) → Dec (i ≡ n) → p i ≡ true
    go false q e rest d = absurd (false≢true e)
    go true q e rest (yes d) = rw d q
    go true q e rest (no d) = rest e i (omega arith)
