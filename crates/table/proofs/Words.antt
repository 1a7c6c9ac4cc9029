-- The word of ready levels, in the image and in the table.
use mathlib.Core.Path.{◌≡◌, refl, sym, ap, ◌∙◌}
use mathlib.Core.Bool.{Bool, true, false, not, ◌&&◌, ◌||◌}
use mathlib.Core.List.{List, [], ◌∷◌}
use Prim.Native.Nat.{ℕ, ◌+◌, ◌-◌, ◌≤◌, ◌/◌, ◌^◌}
use native.Mathlib.Nat.{div-eq_of_lt}
use native.Mathlib.Omega.{arith}
use lib.Dec.{eqb}
use lib.Pow.{pow-lt}
use lib.ListN.{length, get_or, get_or-eq_default}
use borrow.Author.Tests.{eq-eqb, ne_eqb}
use Rattle.queue.specs.Slots.{first_at, same, place_of}
use Rattle.queue.specs.Order.{level}
use Rattle.rules.specs.Table.{Table, able_queue, task_of, queue_of, slot_in, works, with_ready}
use Rattle.rules.specs.Ready.{bit_of, without_level, is_at, beside, ready_without}
use Rattle.table.specs.Image.{slot_count}
use Rattle.laws.specs.queues.Put.{work_at}

-- ---- a word

pub bit_none : (l : ℕ) → 64 ≤ l → 0 ≡ bit_of l
unfolding bit_of
bit_none l h = sym (div-eq_of_lt (pow-lt {i = 63} {j = l} h))

pub bit_is : (l : ℕ) → 9223372036854775808 / 2 ^ l ≡ bit_of l
unfolding bit_of
bit_is l = refl

-- ---- who stands in a slot of the able queue

module _ (l k : ℕ) (t : Table) where
  pub at_free : slot_in able_queue k t ≡ 0 → false ≡ is_at l k t
  at_free e = rw e

  pub at_past : slot_count ≤ k → length (queue_of t able_queue) ≡ slot_count → false ≡ is_at l k t
  at_past h n = at_free (get_or-eq_default (queue_of t able_queue) 0 {n = k} (omega arith))

  pub at_task : (v w : ℕ) → v ≡ slot_in able_queue k t → (v ≡ 0 → ⊥) → w ≡ (task_of t (v - 1)).work → eqb w l ≡ is_at l k t
  at_task v w e d h =
      ap (λ (x : ℕ). eqb x l) (h ∙ sym (work_at t (v - 1)))
      ∙ sym (ap (λ (b : Bool). not b && eqb (get_or (works t) (v - 1) 0) l) (ne_eqb v 0 d))
      ∙ ap (level (works t) l) e

-- ---- who stands beside a task there

module _ (i at l : ℕ) (t : Table) (a : at ≡ place_of i (queue_of t able_queue)) (w : l ≡ (task_of t i).work) where
  beside_is : beside i t ≡ (is_at l (at + 1) t || (not (eqb at 0) && is_at l (at - 1) t))
  unfolding beside
  beside_is = rw (a, w)

  pub beside-behind : is_at l (at + 1) t ≡ true → true ≡ beside i t
  beside-behind e = sym (beside_is ∙ ap (λ (b : Bool). b || (not (eqb at 0) && is_at l (at - 1) t)) e)

  module _ (e : is_at l (at + 1) t ≡ false) where
    pub beside_front : at ≡ 0 → false ≡ beside i t
    beside_front z = sym (beside_is ∙ ap (λ (b : Bool). b || (not (eqb at 0) && is_at l (at - 1) t)) e ∙ ap (λ (b : Bool). not b && is_at l (at - 1) t) (eq-eqb at 0 z))

    pub beside-before : (at ≡ 0 → ⊥) → is_at l (at - 1) t ≡ beside i t
    beside-before d = sym (beside_is ∙ ap (λ (b : Bool). b || (not (eqb at 0) && is_at l (at - 1) t)) e ∙ ap (λ (b : Bool). not b && is_at l (at - 1) t) (ne_eqb at 0 d))

-- Who is the first stands in slot 0.
first_place : (v : ℕ) (l : List ℕ) → (v ≡ 0 → ⊥) → get_or l 0 0 ≡ v → first_at (same v) l ≡ 0
unfolding first_at
first_place v [] n e = refl
first_place v (x ∷ xs) n e = rw (eq-eqb x v e)

pub first_found : (i : ℕ) (t : Table) → slot_in able_queue 0 t ≡ i + 1 → 0 ≡ place_of i (queue_of t able_queue)
first_found i t e = sym (first_place (i + 1) (queue_of t able_queue) (λ x. omega arith) e)

-- ---- a task leaves its level, or stays

module _ (i : ℕ) (t : Table) where
  pub level-stays : beside i t ≡ true → t ≡ with_ready (ready_without i t) t
  unfolding ready_without
  level-stays e = rw e

  pub level_dropped : beside i t ≡ false → without_level (task_of t i).work t.ready ≡ ready_without i t
  unfolding ready_without
  level_dropped e = rw e
