-- A test that goes through the first n numbers finds one exactly where there is one: for a peer, and for a mutex that a task holds.
use Rattle.std.specs.Prelude.{◌≡◌, refl, ◌≢◌, Bool, true, false, cond, ℕ, zero, suc, ◌<◌}
use Rattle.std.proofs.Common.{sym, ◌∙◌, ⊎_elim, true≢false, not-suc-le-zero, eq-or-lt_of_le, le_of_suc-le-suc, arith}
use Rattle.std.proofs.lemmas.Bool.{false≢true}
use Rattle.rules.specs.Sizes.{task_count, mutex_count}
use Rattle.rules.specs.Table.{Table, task_of, mutex_of, is_able, written}
use Rattle.rules.specs.Decides.{Decides, equals, itself, fails, both}
use Rattle.rules.specs.Move.{peer_below, has_peer}
use Rattle.rules.specs.Task.{holds_below}
use Rattle.laws.specs.order.Order.{Peer}
use Rattle.laws.specs.numbers.Numbers.{Holds}

-- Some number below n has P.
abbrev pub Some : ℕ → (ℕ → Type 0) → Type 0
Some n P = (j : ℕ) × (j < n) × P j

-- `any n` goes through the numbers below n.
some : {p : ℕ → Bool} {P : ℕ → Type 0} (any : ℕ → Bool) → any 0 ≡ false → ((n : ℕ) → any (suc n) ≡ cond (p n) true (any n)) → ((j : ℕ) → Decides (p j) (P j))
    → (n : ℕ) → Decides (any n) (Some n P)
some any none step d zero = record { holds = λ e. absurd (true≢false (sym e ∙ none)); passes = λ s. absurd (not-suc-le-zero s.1) }
some {p} {P} any none step d (suc n) = rw (step n) (go (p n) (d n) (some any none step d n))
  where
    go : (b : Bool) → Decides b (P n) → Decides (any n) (Some n P) → Decides (cond b true (any n)) (Some (suc n) P)
    go true own before = record { holds = λ e. (n, omega arith, own.holds refl); passes = λ s. refl }
    go false own before =
        record {
          holds = λ e. let (j, l, h) = before.holds e in (j, omega arith, h);
          passes = λ s. let (j, l, h) = s in ⊎_elim (λ e. absurd (false≢true (own.passes (rw (← e) h)))) (λ m. before.passes (j, m, h)) (eq-or-lt_of_le (le_of_suc-le-suc l));
        }

-- The test for a peer finds one.
pub peer : (i : ℕ) (t : Table) → Decides (has_peer i t) (Peer i t)
unfolding peer_below
peer i t =
    let d : Decides (has_peer i t) (Some task_count (λ j. (j ≢ i) × ((is_able (task_of t j) ≡ true) × ((task_of t j).work ≡ (task_of t i).work)))) =
    some (λ n. peer_below n i t) refl (λ n. refl) (λ j. both (fails equals) (both itself equals)) task_count in
    record {
      holds = λ e. let (j, l, h) = d.holds e in record { number = j; range = l; other = h.0; able = h.1.0; work = h.1.1 };
      passes = λ p. d.passes (p.number, p.range, (p.other, (p.able, p.work)));
    }

-- The test for a mutex that task i holds finds one.
pub holding : (i : ℕ) (t : Table) → Decides (holds_below mutex_count i t) (Holds i t)
unfolding holds_below
holding i t =
    let d : Decides (holds_below mutex_count i t) (Some mutex_count (λ m. (mutex_of t m).holder ≡ written i)) = some (λ n. holds_below n i t) refl (λ n. refl) (λ m. equals) mutex_count in
    record { holds = λ e. let (m, l, h) = d.holds e in record { mutex = m; range = l; holder = h }; passes = λ h. d.passes (h.mutex, h.range, h.holder) }
