-- The slots of a queue, one after another.
use Rattle.std.specs.Prelude.{◌≡◌, refl, Bool, true, false, List, [], ◌∷◌, ℕ, zero, suc, ◌+◌, ◌*◌, ◌/◌, ◌%◌, ◌≤◌, ◌<◌, leb, length, get_or, drop}
use Rattle.std.specs.Int.{from_bool}
use Rattle.std.proofs.Common.{subst, add-one, arith, drop_of_length-le, drop-cons}
use borrow.Author.Tests.{eq-eqb, ne_eqb}
use Rattle.queue.specs.Slots.{key_of}
use Rattle.queue.specs.Order.{All, none, more, Le, Ordered, empty, front, one, count}
use Rattle.queue.specs.Checked.{first_le, le_all}
use Rattle.rules.specs.Sizes.{task_count}
use Rattle.rules.specs.Sound.{once}
use Rattle.rules.specs.Decides.{Decides, equals, at_most, fails, either, both}
use Rattle.why.specs.Tests.{may_stand}

-- ---- how often a number stands there, counted slot by slot

pub count_at : (u : ℕ) (l : List ℕ) (j : ℕ) → j < length l → count u (drop j l) ≡ one u (get_or l j 0) + count u (drop (j + 1) l)
unfolding count
count_at u l j h = let cut : drop j l ≡ get_or l j 0 ∷ drop (j + 1) l = rw add-one (drop-cons l j 0 h) in rw cut

pub count_end : (u : ℕ) (l : List ℕ) (j : ℕ) → length l ≤ j → count u (drop j l) ≡ 0
unfolding count
count_end u l j h = rw (drop_of_length-le l h)

pub once_most : (b : Bool) → once b ≤ 1
once_most true = omega arith
once_most false = omega arith

-- A test as a number, in the code's words.
pub once_is : (b : Bool) → from_bool b ≡ once b
once_is true = refl
once_is false = refl

-- ---- all slots, and each by its number

pub all_slots : {P : ℕ → Type 0} (l : List ℕ) → ((j : ℕ) → j < length l → P (get_or l j 0)) → All P l
all_slots [] h = none
all_slots {P} (x ∷ xs) h = more (h 0 (omega arith)) (all_slots {P = P} xs (λ j b. h (suc j) (omega arith)))

pub slot_of : {P : ℕ → Type 0} {l : List ℕ} → All P l → (j : ℕ) → j < length l → P (get_or l j 0)
slot_of none j h = absurd (omega arith)
slot_of (more p a) zero h = p
slot_of (more p a) (suc j) h = slot_of a j (omega arith)

suc_plus : (j : ℕ) → suc j + 1 ≡ suc (j + 1)
suc_plus j = omega arith

-- A queue is in order exactly where each slot may stand before the next.
module _ (keys : List ℕ) where
  pub ordered-slots : (l : List ℕ) → ((j : ℕ) → j < length l → Le keys (get_or l j 0) (get_or l (j + 1) 0)) → Ordered keys l
  ordered-slots [] h = empty
  ordered-slots (x ∷ xs) h =
      let rest : Ordered keys xs = ordered-slots xs (λ j b. rw (suc_plus j) at (h (suc j) (omega arith))) in
      front (le_all keys x rest (h 0 (omega arith))) rest

  pub slots-ordered : {l : List ℕ} → Ordered keys l → (j : ℕ) → j < length l → Le keys (get_or l j 0) (get_or l (j + 1) 0)
  slots-ordered empty j h = absurd (omega arith)
  slots-ordered (front {x} a o) zero h = first_le keys x a
  slots-ordered (front {x} a o) (suc j) h = rw (suc_plus j) (slots-ordered o j (omega arith))

pub stand_decides : (keys : List ℕ) (x y : ℕ) → Decides (may_stand keys x y) (Le keys x y)
unfolding may_stand
stand_decides keys x y = either equals (both (fails equals) at_most)

-- ---- the code's own

module _ (keys : List ℕ) (x y : ℕ) where
  pub stand_free : y ≡ 0 → true ≡ may_stand keys x y
  unfolding may_stand
  stand_free e = rw (eq-eqb y 0 e)

  pub stand_behind-free : (y ≡ 0 → ⊥) → x ≡ 0 → false ≡ may_stand keys x y
  unfolding may_stand
  stand_behind-free n e = rw (ne_eqb y 0 n, eq-eqb x 0 e)

  pub stand_both : {a b : ℕ} → (y ≡ 0 → ⊥) → (x ≡ 0 → ⊥) → a ≡ key_of keys x → b ≡ key_of keys y → leb a b ≡ may_stand keys x y
  unfolding may_stand
  stand_both n m d e = rw (ne_eqb y 0 n, ne_eqb x 0 m, d, e)

-- ---- the records of the rules on queues, and of those on messages: 32 slots each

at_queue : (q j : ℕ) → j < task_count → (q * task_count + j) / task_count ≡ q
at_queue q j h = omega arith

at_slot : (q j : ℕ) → j < task_count → (q * task_count + j) % task_count ≡ j
at_slot q j h = omega arith

-- What holds of each record holds of each slot of each of the queues, or of each of the channels' rows.
pub each_slot : (rows : ℕ) (P : ℕ → ℕ → Type 0) → ((n : ℕ) → n < rows * task_count → P (n / task_count) (n % task_count)) → (q : ℕ) → q < rows → (j : ℕ) → j < task_count → P q j
each_slot rows P h q a j b =
    subst (λ (k : ℕ). P q k) (at_slot q j b)
    (subst (λ (k : ℕ). P k ((q * task_count + j) % task_count)) (at_queue q j b) (h (q * task_count + j) (omega arith)))
