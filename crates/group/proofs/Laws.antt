-- The calls on groups of flags, case by case.
use mathlib.Core.Path.{◌≡◌, refl, sym, ap, ◌∙◌}
use mathlib.Core.Bool.{Bool, true, false, cond, ◌||◌, true≢false}
use Prim.Native.Nat.{ℕ, zero, suc, ◌+◌, ◌-◌, ◌≤◌, ◌<◌}
use native.Mathlib.Omega.{arith}
use lib.Bits.{bit_or, bit_xor}
use lib.ListN.{get_or-eq_default}
use lib.Dec.{eqb, leb}
use borrow.Author.Tests.{lt-ltb, le-ltb, eq-eqb, ne_eqb, leb-false}
use Rattle.rules.specs.Sizes.{task_count, test_count, given, done, bad_value}
use Rattle.rules.specs.Table.{Table, Asked, nothing_asked, task_of, group_queue, slot_in, asked_by, no_task}
use Rattle.rules.specs.Move.{ended}
use Rattle.rules.specs.Object.{yes_no, waits, taken}
use Rattle.rules.specs.Family.{groups}
use Rattle.rules.specs.Sound.{Shaped}
use Rattle.rules.specs.Group.{flags_of, with_flags_of, is_met, consumed, turned_over, rightly_asked, woken, wait}

-- A mask, and one of the four tests.
pub few_tests : (mask test : ℕ) → (eqb mask 0 || leb test_count test) ≡ false → test < test_count
few_tests mask test e = go (eqb mask 0) (leb test_count test) refl e
  where
    go : (a b : Bool) → leb test_count test ≡ b → (a || b) ≡ false → test < test_count
    go true b d f = absurd (true≢false f)
    go false true d f = absurd (true≢false f)
    go false false d f = leb-false test_count test d

-- Whether a wait asks rightly, with the answer n where it does.
module _ (a : Asked) where
  pub no-test : (eqb a.mask 0 || leb test_count a.test) ≡ true → (n : ℕ) → bad_value ≡ rightly_asked a n
  no-test e n = rw e

  module _ (tested : (eqb a.mask 0 || leb test_count a.test) ≡ false) where
    pub no_consume : 1 < a.consume → (n : ℕ) → bad_value ≡ rightly_asked a n
    no_consume l n = rw (tested, lt-ltb _ _ l)

    pub asks_rightly : a.consume ≤ 1 → (n : ℕ) → n ≡ rightly_asked a n
    asks_rightly l n = rw (tested, le-ltb _ _ l)

-- Whether a post does.
module _ (mask on : ℕ) where
  pub no-mask : mask ≡ 0 → bad_value ≡ cond (eqb mask 0) bad_value (yes_no on done)
  no-mask e = rw (eq-eqb _ _ e)

  module _ (some : mask ≡ 0 → ⊥) where
    pub no_on : 1 < on → bad_value ≡ cond (eqb mask 0) bad_value (yes_no on done)
    no_on l = rw (ne_eqb _ _ some, lt-ltb _ _ l)

    pub posts_rightly : on ≤ 1 → done ≡ cond (eqb mask 0) bad_value (yes_no on done)
    posts_rightly l = rw (ne_eqb _ _ some, le-ltb _ _ l)

-- ---- a wait: it is met, or it blocks

module _ (g limit : ℕ) (t : Table) (a : Asked) {f : ℕ} (flags : f ≡ flags_of t g) {b : Bool} (met : b ≡ is_met f a) where
  test : b ≡ is_met (flags_of t g) a
  test = met ∙ ap (λ (x : ℕ). is_met x a) flags

  module _ (is : b ≡ true) where
    pub takes-answer : (n : ℕ) → 0 ≡ cond (is_met (flags_of t g) a) 0 n
    takes-answer n = rw (sym test ∙ is)

    pub takes : {e : ℕ} → e ≡ consumed f a → taken (with_flags_of g (bit_xor f e) t) ≡ wait g limit a t
    unfolding wait
    takes eaten = rw (sym test ∙ is, eaten, flags)

  module _ (is : b ≡ false) where
    pub blocks-answer : {r n : ℕ} → r ≡ n → r ≡ cond (is_met (flags_of t g) a) 0 n
    blocks-answer e = rw (sym test ∙ is) e

    pub blocks : waits groups g limit a t ≡ wait g limit a t
    unfolding wait
    blocks = rw (sym test ∙ is)

-- ---- a number that is no task's asks nothing

pub nobody-asks : {t : Table} → Shaped t → (w : ℕ) → task_count ≤ w → nothing_asked ≡ asked_by (task_of t w)
nobody-asks {t} s w l = ap asked_by (sym (get_or-eq_default t.tasks no_task (omega (arith, s.tasks))))

-- ---- the waiters, one after another

module _ (g flags k together : ℕ) (t : Table) (n : ℕ) where
  -- The last slot is looked at, or the queue is over.
  pub woken_end : n ≡ 0 → woken n g flags k together t ≡ with_flags_of g (turned_over together flags) t
  unfolding woken
  woken_end e = rw e

  module _ {v : ℕ} (at : v ≡ slot_in (group_queue g) k t) where
    pub woken-over : v ≡ 0 → woken n g flags k together t ≡ with_flags_of g (turned_over together flags) t
    unfolding woken
    woken-over e = go n
      where
        go : (n : ℕ) → woken n g flags k together t ≡ with_flags_of g (turned_over together flags) t
        go zero = refl
        go (suc n) = rw (← at, eq-eqb v 0 e)

    module _ (more : n ≡ 0 → ⊥) (some : v ≡ 0 → ⊥) {b : Bool} (met : b ≡ is_met flags (asked_by (task_of t (v - 1)))) where
      next_one : woken n g flags k together t ≡ woken (suc (n - 1)) g flags k together t
      next_one = ap (λ (m : ℕ). woken m g flags k together t) (omega arith)

      pub woken_wakes : b ≡ true → {e : ℕ} → e ≡ consumed flags (asked_by (task_of t (v - 1))) → {u : Table} → u ≡ ended given (v - 1) t
          → woken n g flags k together t ≡ woken (n - 1) g flags k (bit_or together e) u
      unfolding woken
      woken_wakes is eaten done = next_one ∙ rw (← at, ne_eqb v 0 some, sym met ∙ is, eaten, done)

      pub woken-waits : b ≡ false → woken n g flags k together t ≡ woken (n - 1) g flags (k + 1) together t
      unfolding woken
      woken-waits is = next_one ∙ rw (← at, ne_eqb v 0 some, sym met ∙ is)
