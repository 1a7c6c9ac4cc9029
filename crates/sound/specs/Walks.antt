-- The walk over all queues, from front to front.
use Rattle.std.specs.Prelude.{◌≡◌, Option, Some, None, unwrap_or, Bool, ◌&&◌}
use Rattle.std.proofs.Math.Path.{refl, sym, ap}
use Rattle.std.proofs.Common.{subst, ◌∙◌}
use Rattle.std.proofs.Math.Bool.{true, false, cond, and-true, and-false}
use Rattle.std.proofs.lemmas.Bool.{false≢true}
use Rattle.std.proofs.lemmas.Option.{none-some, cond_some}
use mathlib.Core.List.{List}
use Prim.Native.Nat.{ℕ, zero, suc, ◌+◌, ◌*◌, ◌-◌, ◌≤◌, ◌<◌}
use Rattle.std.proofs.Math.Decide.{ℕ_discrete}
use native.Mathlib.Omega.{arith}
use Rattle.std.proofs.Math.ListN.{length}
use borrow.Author.Tests.{eq-eqb, ne_eqb}
use Rattle.rules.specs.Sizes.{task_count}
use Rattle.rules.specs.Table.{Table, queue_of, queue_count, works, first_in}
use Rattle.rules.specs.Sound.{each, Empty, Shaped}
use Rattle.sound.specs.Tests.{each_none, each_more, each_stop}
use Rattle.sound.specs.Packed.{lead, lead_none, lead_most, leads, frees, slot_count, sums_most}
use Rattle.sound.specs.Lines.{struck, struck-length, lined, Walked, lined-free, struck-free}
use Rattle.sound.specs.Queues.{spots_at, spots_start, spots_next, is_lined}
use Rattle.sound.specs.Waits.{is_awaited, is_front_sound}

-- What the walk over queue q answers and leaves; and the same with the test of the queue's object.
abbrev pub QueueWalked : Table → ℕ → List ℕ → Option ℕ → List ℕ → Type 0
QueueWalked t q spots r after = Walked (lined (works t) q 0 spots (queue_of t q)) (queue_of t q) spots r after

abbrev pub QueuePassed : Table → ℕ → List ℕ → Option ℕ → List ℕ → Type 0
QueuePassed t q spots r after = Walked (lined (works t) q 0 spots (queue_of t q) && is_front_sound t q) (queue_of t q) spots r after

unfoldable pub is_passed : List ℕ → Table → ℕ → Bool
is_passed spots t q = is_lined spots t q && is_front_sound t q

-- What the walk over all queues answers, and what it leaves.
pub record AllWalked (t : Table) (spots : List ℕ) (r : Option ℕ) (after : List ℕ) : Type 0 where
  pub filled : r ≡ cond (each queue_count (is_passed spots t)) (Some (leads queue_count t)) None
  pub left : each queue_count (is_passed spots t) ≡ true → after ≡ spots_at spots t queue_count

-- The sum of both counts is small.
pub walked_most : {t : Table} {spots : List ℕ} {r : Option ℕ} {after : List ℕ} → Shaped t → AllWalked t spots r after → unwrap_or r (slot_count + 1) + frees queue_count t ≤ slot_count + 1 + slot_count
walked_most {t} {spots} {r} s w = go (each queue_count (is_passed spots t)) w.filled
  where
    go : (b : Bool) → r ≡ cond b (Some (leads queue_count t)) None → unwrap_or r (slot_count + 1) + frees queue_count t ≤ slot_count + 1 + slot_count
    go true e = rw e (omega (arith, sums_most t s.slots queue_count (omega arith)))
    go false e = rw e (omega (arith, sums_most t s.slots queue_count (omega arith)))

-- What is known once the queues below q are walked.
pub record Passing (t : Table) (spots₀ : List ℕ) (q : ℕ) (spots : List ℕ) (n : ℕ) : Type 0 where
  pub size : length spots ≡ task_count
  pub passed : each q (is_passed spots₀ t) ≡ true
  pub filled : n ≡ leads q t
  pub most : n ≤ q * task_count
  pub left : spots ≡ spots_at spots₀ t q

pub pass_start : {t : Table} {spots : List ℕ} → length spots ≡ task_count → Passing t spots 0 spots 0
unfolding leads
pass_start {t} {spots} e = record { size = e; passed = sym (each_none _); filled = refl; most = omega arith; left = spots_start spots t }

module _ {t : Table} {spots₀ : List ℕ} {q : ℕ} {spots : List ℕ} {n : ℕ} (p : Passing t spots₀ q spots n) where
  -- The queue's own test, of the spots that are left.
  passes : lined (works t) q 0 spots (queue_of t q) && is_front_sound t q ≡ is_passed spots₀ t q
  unfolding is_passed is_lined
  passes = rw p.left

  module _ {r : Option ℕ} {after : List ℕ} (h : q < queue_count) (slots : length (queue_of t q) ≡ task_count) (w : QueuePassed t q spots r after) where
    pub pass_next : {k : ℕ} → r ≡ Some k → Passing t spots₀ (q + 1) after (n + k)
    unfolding leads
    pass_next {k} f =
        let (e, some) : (lined (works t) q 0 spots (queue_of t q) && is_front_sound t q ≡ true) × (lead (queue_of t q) ≡ k) = cond_some _ _ _ (sym w.filled ∙ f) in
        let step : spots_at spots₀ t (q + 1) ≡ struck spots (queue_of t q) = spots_next spots₀ t q ∙ ap (λ (x : List ℕ). struck x (queue_of t q)) (sym p.left) in
        let one : q + 1 ≡ suc q = omega arith in
        record {
          size = ap length (w.left e) ∙ struck-length spots (queue_of t q) ∙ p.size;
          passed = each_more (is_passed spots₀ t) q p.passed (sym passes ∙ e);
          filled = rw one (omega (arith, p.filled, some));
          most = omega (arith, p.most, some, lead_most (queue_of t q));
          left = w.left e ∙ sym step;
        }

    pub pass_stop : r ≡ None → AllWalked t spots₀ None after
    pass_stop f = go (lined (works t) q 0 spots (queue_of t q) && is_front_sound t q) refl w.filled
      where
        go : (b : Bool) → lined (works t) q 0 spots (queue_of t q) && is_front_sound t q ≡ b → r ≡ cond b (Some (lead (queue_of t q))) None → AllWalked t spots₀ None after
        go true e g = absurd (none-some _ (sym f ∙ g))
        go false e g =
            let no : each queue_count (is_passed spots₀ t) ≡ false = each_stop (is_passed spots₀ t) queue_count q h (sym passes ∙ e) in
            record { filled = rw no refl; left = λ x. absurd (false≢true (sym no ∙ x)) }

-- One queue: it is empty, its object may have no waiter, or it is walked.
module _ (t : Table) (q : ℕ) {spots : List ℕ} where
  pub pass-empty : first_in q t ≡ 0 → QueuePassed t q spots (Some 0) spots
  unfolding is_front_sound
  pass-empty e =
      rw (lined-free (works t) q 0 spots (queue_of t q) e, eq-eqb (first_in q t) 0 e)
      (record { filled = ap Some (sym (lead_none (queue_of t q) e)); left = λ z. sym (struck-free spots (queue_of t q) e) })

  pub pass-refused : (after : List ℕ) → (first_in q t ≡ 0 → ⊥) → is_awaited t q ≡ false → QueuePassed t q spots None after
  unfolding is_front_sound
  pass-refused after d e =
      rw (ne_eqb (first_in q t) 0 d, e, and-false)
      (record { filled = refl; left = λ z. absurd (false≢true z) })

  pub pass_on : {r : Option ℕ} {after : List ℕ} → (first_in q t ≡ 0 → ⊥) → is_awaited t q ≡ true → QueueWalked t q spots r after → QueuePassed t q spots r after
  unfolding is_front_sound
  pass_on d e w = rw (ne_eqb (first_in q t) 0 d, e, and-true) w

-- The queues from q on and before r are empty.
pub record EmptyTo (t : Table) (q r : ℕ) : Type 0 where
  pub from : q ≤ r
  pub within : r ≤ queue_count
  pub empty : (p : ℕ) → q ≤ p → p < r → Empty p t

pub empty_more : {t : Table} {q r : ℕ} → EmptyTo t q r → r < queue_count → Empty r t → EmptyTo t q (r + 1)
empty_more {t} {q} {r} e h z = record { from = omega (arith, e.from); within = omega arith; empty = λ p a b. go p a b (ℕ_discrete p r) }
  where
    go : (p : ℕ) → q ≤ p → p < r + 1 → Dec (p ≡ r) → Empty p t
    go p a b (yes d) = rw d z
    go p a b (no d) = e.empty p a (omega arith)

-- The first queue from q on that is not empty, `queue_count` where there is none.
pub record NextFront (t : Table) (q r : ℕ) : Type 0 where
  pub before : EmptyTo t q r
  pub stops : r < queue_count → Empty r t → ⊥

-- Empty ones are passed, and nothing changes.
pub pass-skip : {t : Table} {spots₀ : List ℕ} (d : ℕ) {q : ℕ} {spots : List ℕ} {n : ℕ} → Shaped t → q + d ≤ queue_count → ((p : ℕ) → q ≤ p → p < q + d → Empty p t) → Passing t spots₀ q spots n → Passing t spots₀ (q + d) spots n
pass-skip {t} {spots₀} zero {q} {spots} {n} s h f p = subst (λ (x : ℕ). Passing t spots₀ x spots n) (omega arith) p
pass-skip {t} {spots₀} (suc d) {q} {spots} {n} s h f p =
    let one : Passing t spots₀ (q + 1) spots (n + 0) = pass_next p (omega arith) (s.slots q (omega arith)) (pass-empty t q (f q (omega arith) (omega arith))) refl in
    subst (λ (x : ℕ). Passing t spots₀ x spots n) (omega arith)
    (pass-skip d s (omega arith) (λ r a b. f r (omega arith) (omega arith)) (subst (λ (x : ℕ). Passing t spots₀ (q + 1) spots x) (omega arith) one))

pub pass-over : {t : Table} {spots₀ : List ℕ} {q r : ℕ} {spots : List ℕ} {n : ℕ} → Shaped t → EmptyTo t q r → Passing t spots₀ q spots n → Passing t spots₀ r spots n
pass-over {t} {spots₀} {q} {r} {spots} {n} s e p =
    let sum : q + (r - q) ≡ r = omega (arith, e.from) in
    subst (λ (x : ℕ). Passing t spots₀ x spots n) sum (pass-skip (r - q) s (omega (arith, e.within)) (λ x a b. e.empty x a (omega arith)) p)

pub pass_end : {t : Table} {spots₀ : List ℕ} {spots : List ℕ} {n : ℕ} → Passing t spots₀ queue_count spots n → AllWalked t spots₀ (Some n) spots
pass_end p = record { filled = rw p.passed (ap Some p.filled); left = λ e. p.left }
