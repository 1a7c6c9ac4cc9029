-- The laws of `Changes` of what a removal answers: a wrong answer in the definition is refused here.
use Rattle.std.specs.Prelude.{Ok, Err, ◌≡◌}
use Rattle.std.proofs.Math.Path.{refl, ap}
use Rattle.std.proofs.Common.{true≢false, arith}
use Rattle.std.proofs.Math.Bool.{Bool, true, false, cond}
use mathlib.Core.List.{List}
use Prim.Native.Nat.{ℕ, ◌+◌, ◌≤◌}
use Rattle.std.proofs.Math.Decide.{ℕ_discrete}
use Rattle.queue.specs.Slots.{stands, without}
use Rattle.queue.specs.Order.{one, count}
use Rattle.queue.specs.Answers.{remove_answer}
use Rattle.queue.specs.Stands.{stands_some, one_same, one_other}
use Rattle.queue.specs.Counts.{count-without}
use Rattle.queue.specs.Stable.{without-absent}
use Rattle.queue.specs.Changes.{made}
use Rattle.queue.specs.declared.Refusal.TheVariants.{NotThere}

module _ (id : ℕ) (l : List ℕ) where
  removed_by : (P : Bool → Type 0) → (stands (id + 1) l ≡ true → P true) → (stands (id + 1) l ≡ false → P false) → P (made (remove_answer id l))
  unfolding remove_answer
  removed_by P done left = go (stands (id + 1) l) refl
    where
      go : (b : Bool) → stands (id + 1) l ≡ b → P (made (cond b (Ok tt) (Err NotThere)))
      go true e = done e
      go false e = left e

  -- A refusal leaves the queue as it came.
  pub removed_refused : made (remove_answer id l) ≡ false → without id l ≡ l
  removed_refused = removed_by (λ b. b ≡ false → without id l ≡ l) (λ e h. absurd (true≢false h)) (λ e h. without-absent id l e)

  -- The id stood there once more where it leaves, and each other as often.
  pub removed_count : (u : ℕ) → (u ≡ 0 → ⊥) → count u (without id l) + cond (made (remove_answer id l)) (one u (id + 1)) 0 ≡ count u l
  removed_count u n = removed_by (λ b. count u (without id l) + cond b (one u (id + 1)) 0 ≡ count u l) there (λ e. omega (arith, ap (count u) (without-absent id l e)))
    where
      there : stands (id + 1) l ≡ true → count u (without id l) + one u (id + 1) ≡ count u l
      there e = go (ℕ_discrete (id + 1) u)
        where
          go : Dec (id + 1 ≡ u) → count u (without id l) + one u (id + 1) ≡ count u l
          go (yes p) = let s : 1 ≤ count u l = rw p at (stands_some (id + 1) l e) in omega (arith, count-without u n id l, ap (one u) p, one_same u)
          go (no p) = omega (arith, count-without u n id l, one_other u (id + 1) p)
