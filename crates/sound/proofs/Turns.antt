-- The walk over a queue, turn by turn.
use mathlib.Core.Path.{◌≡◌, refl, sym, ap, ◌∙◌}
use mathlib.Core.Bool.{true, false, cond, false≢true}
use Rattle.std.specs.Prelude.{Some, None}
use mathlib.Core.List.{List, ◌∷◌}
use Prim.Native.Nat.{ℕ, ◌+◌, ◌-◌, ◌≤◌, ◌<◌}
use native.Mathlib.Nat.{zero-add}
use native.Mathlib.Numerals.{add-one}
use native.Mathlib.Omega.{arith}
use lib.Dec.{eqb}
use lib.ListN.{length, get_or, set, drop, length-set, drop_of_length-le}
use lib.Seq.{drop-cons}
use borrow.Author.Tests.{ne_eqb}
use Rattle.queue.specs.Slots.{key_of}
use Rattle.queue.specs.Order.{one, count}
use Rattle.rules.specs.Sizes.{task_count}
use Rattle.rules.specs.Table.{Table, queue_of}
use Rattle.sound.specs.Packed.{lead, lead_none, lead_more, of_seven}
use Rattle.sound.specs.Lines.{struck_out, may_stand, lined, struck, lined-free, struck-free, Walked}

-- ---- a slot that is free, one that may stand there, one that may not

module _ (keys : List ℕ) (q key : ℕ) (spots : List ℕ) where
  lined_more : (x : ℕ) (xs : List ℕ) → (x ≡ 0 → ⊥) → may_stand q key keys spots x ≡ true → lined keys q key spots (x ∷ xs) ≡ lined keys q (key_of keys x) (set spots (x - 1) struck_out) xs
  unfolding lined
  lined_more x xs d e = rw (ne_eqb x 0 d, e)

  lined_stop : (x : ℕ) (xs : List ℕ) → (x ≡ 0 → ⊥) → may_stand q key keys spots x ≡ false → lined keys q key spots (x ∷ xs) ≡ false
  unfolding lined
  lined_stop x xs d e = rw (ne_eqb x 0 d, e)

struck_more : (spots : List ℕ) (x : ℕ) (xs : List ℕ) → (x ≡ 0 → ⊥) → struck spots (x ∷ xs) ≡ struck (set spots (x - 1) struck_out) xs
unfolding struck
struck_more spots x xs d = rw (ne_eqb x 0 d)

-- ---- the slots of a queue

-- What is left to test, at slot j.
pub record Turn (keys ids spots₀ : List ℕ) (q key : ℕ) (spots : List ℕ) (j : ℕ) : Type 0 where
  pub slots : length spots ≡ task_count
  pub test : lined keys q 0 spots₀ ids ≡ lined keys q key spots (drop j ids)
  pub left : struck spots₀ ids ≡ struck spots (drop j ids)
  pub ahead : lead ids ≡ j + lead (drop j ids)

cut_at : (l : List ℕ) (j : ℕ) → j < length l → drop j l ≡ get_or l j 0 ∷ drop (j + 1) l
cut_at l j h = rw add-one (drop-cons l j 0 h)

module _ {keys ids spots₀ : List ℕ} {q : ℕ} where
  pub turn_start : length spots₀ ≡ task_count → Turn keys ids spots₀ q 0 spots₀ 0
  turn_start h = record { slots = h; test = refl; left = refl; ahead = sym (zero-add (lead ids)) }

  module _ {key : ℕ} {spots : List ℕ} {j : ℕ} (t : Turn keys ids spots₀ q key spots j) where
    -- The front of what is left is free: the walk ends.
    turn_over : get_or (drop j ids) 0 0 ≡ 0 → Walked (lined keys q 0 spots₀ ids) ids spots₀ (Some j) spots
    turn_over z =
        let passed : lined keys q 0 spots₀ ids ≡ true = t.test ∙ lined-free keys q key spots (drop j ids) z in
        let all : lead ids ≡ j = omega (arith, t.ahead, lead_none (drop j ids) z) in
        record { filled = rw passed (ap Some (sym all)); left = λ e. sym (t.left ∙ struck-free spots (drop j ids) z) }

    pub turn_end : length ids ≤ j → Walked (lined keys q 0 spots₀ ids) ids spots₀ (Some j) spots
    turn_end h = turn_over (ap (λ (l : List ℕ). get_or l 0 0) (drop_of_length-le ids h))

    -- The slot at j holds v.
    module _ {v : ℕ} (h : j < length ids) (e : v ≡ get_or ids j 0) where
      cut : drop j ids ≡ v ∷ drop (j + 1) ids
      cut = rw (add-one, e) (drop-cons ids j 0 h)

      pub turn_free : v ≡ 0 → Walked (lined keys q 0 spots₀ ids) ids spots₀ (Some j) spots
      turn_free z = turn_over (ap (λ (l : List ℕ). get_or l 0 0) cut ∙ z)

      pub turn_more : {k : ℕ} → k ≡ key_of keys v → (v ≡ 0 → ⊥) → may_stand q key keys spots v ≡ true → Turn keys ids spots₀ q k (set spots (v - 1) struck_out) (j + 1)
      turn_more {k} same d m =
          record {
            slots = length-set spots (v - 1) struck_out ∙ t.slots;
            test = t.test ∙ ap (lined keys q key spots) cut ∙ lined_more keys q key spots v (drop (j + 1) ids) d m ∙ ap (λ (x : ℕ). lined keys q x (set spots (v - 1) struck_out) (drop (j + 1) ids)) (sym same);
            left = t.left ∙ ap (struck spots) cut ∙ struck_more spots v (drop (j + 1) ids) d;
            ahead = omega (arith, t.ahead, ap lead cut, lead_more v (drop (j + 1) ids) d);
          }

      pub turn_stop : (after : List ℕ) → (v ≡ 0 → ⊥) → may_stand q key keys spots v ≡ false → Walked (lined keys q 0 spots₀ ids) ids spots₀ None after
      turn_stop after d m =
          let failed : lined keys q 0 spots₀ ids ≡ false = t.test ∙ ap (lined keys q key spots) cut ∙ lined_stop keys q key spots v (drop (j + 1) ids) d m in
          record { filled = rw failed refl; left = λ z. absurd (false≢true (sym failed ∙ z)) }

-- ---- how many are free

pub free_at : (l : List ℕ) (j : ℕ) → j < length l → count 0 (drop j l) ≡ cond (eqb (get_or l j 0) 0) 1 0 + count 0 (drop (j + 1) l)
unfolding count
free_at l j h = rw (cut_at l j h)

pub free_end : (l : List ℕ) (j : ℕ) → length l ≤ j → count 0 (drop j l) ≡ 0
unfolding count
free_end l j h = rw (drop_of_length-le l h)

-- Of seven queues.
module _ (t : Table) (q j : ℕ) where
  pub seven_at : ((p : ℕ) → p ≤ q + 6 → j < length (queue_of t p))
      → of_seven (λ p. count 0 (drop j (queue_of t p))) q ≡ of_seven (λ p. one 0 (get_or (queue_of t p) j 0)) q + of_seven (λ p. count 0 (drop (j + 1) (queue_of t p))) q
  seven_at h = omega (arith, at q (omega arith), at (q + 1) (omega arith), at (q + 2) (omega arith), at (q + 3) (omega arith), at (q + 4) (omega arith), at (q + 5) (omega arith), at (q + 6) (omega arith))
    where
      at : (p : ℕ) → p ≤ q + 6 → count 0 (drop j (queue_of t p)) ≡ one 0 (get_or (queue_of t p) j 0) + count 0 (drop (j + 1) (queue_of t p))
      at p l = free_at (queue_of t p) j (h p l)

  pub seven_end : ((p : ℕ) → p ≤ q + 6 → length (queue_of t p) ≤ j) → of_seven (λ p. count 0 (drop j (queue_of t p))) q ≡ 0
  seven_end h = omega (arith, end q (omega arith), end (q + 1) (omega arith), end (q + 2) (omega arith), end (q + 3) (omega arith), end (q + 4) (omega arith), end (q + 5) (omega arith), end (q + 6) (omega arith))
    where
      end : (p : ℕ) → p ≤ q + 6 → count 0 (drop j (queue_of t p)) ≡ 0
      end p l = free_end (queue_of t p) j (h p l)
