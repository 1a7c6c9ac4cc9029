-- The word of ready levels: whether a level's bit is as the tasks say.
use Rattle.std.specs.Prelude.{◌≡◌, refl, ◌⊎◌, ◌↔◌, Bool, true, false, ◌&&◌, ◌||◌, eqb, ltb, leb}
use Rattle.std.proofs.Common.{sym, ap, ◌∙◌, inl, inr, ⊎_elim, not-suc-le-zero, le_of_suc-le-suc, eq-or-lt_of_le, add-one, pow-add}
use Rattle.std.specs.Bool.{beq}
use Rattle.std.proofs.lemmas.Bool.{false≢true}
use Prim.Native.Nat.compare
use Prim.Native.Nat.{ℕ, zero, suc, ◌+◌, ◌-◌, ◌/◌, ◌%◌, ◌^◌, ◌<◌}
use native.Mathlib.Omega.{arith}
use Rattle.std.proofs.Math.Dec.{is_le}
use Rattle.std.proofs.lemmas.Nat.{shl-shr}
use Rattle.rules.specs.Sizes.{task_count, level_count, words_round}
use Rattle.rules.specs.Table.{Table, task_of, is_able}
use Rattle.rules.specs.Ready.{bit_of, is_set}
use Rattle.rules.specs.Sound.{HasAble}
use Rattle.rules.specs.Decides.{Decides, equals, itself, both, either}
use Rattle.why.specs.Tests.{has_able, is_level_right}

-- ---- the test decides the rule

-- Two tests are the same exactly where what they decide is.
same_decides : {a b : Bool} {A B : Type 0} → Decides a A → Decides b B → Decides (beq a b) (A ↔ B)
same_decides {a} {b} {A} {B} d f = go a b d f
  where
    go : (a b : Bool) → Decides a A → Decides b B → Decides (beq a b) (A ↔ B)
    go true true d f = record { holds = λ e. ((λ x. f.holds refl), λ y. d.holds refl); passes = λ s. refl }
    go true false d f = record { holds = λ e. absurd (false≢true e); passes = λ s. f.passes (s.0 (d.holds refl)) }
    go false true d f = record { holds = λ e. absurd (false≢true e); passes = λ s. d.passes (s.1 (f.holds refl)) }
    go false false d f = record { holds = λ e. ((λ x. absurd (false≢true (d.passes x))), λ y. absurd (false≢true (f.passes y))); passes = λ s. refl }

module _ (l : ℕ) (t : Table) where
  -- One of the first n tasks is able and has level l.
  abbrev Below : ℕ → Type 0
  Below n = (i : ℕ) × (i < n) × (is_able (task_of t i) ≡ true) × ((task_of t i).work ≡ l)

  below_decides : (n : ℕ) → Decides (has_able n l t) (Below n)
  unfolding has_able
  below_decides zero = record { holds = λ e. absurd (false≢true e); passes = λ (i, h, a, e). absurd (not-suc-le-zero h) }
  below_decides (suc n) = let d = either (below_decides n) (both itself equals) in record { holds = λ e. found (d.holds e); passes = λ x. d.passes (place x) }
    where
      found : Below n ⊎ ((is_able (task_of t n) ≡ true) × ((task_of t n).work ≡ l)) → Below (suc n)
      found (inl (i, h, a, e)) = (i, omega arith, a, e)
      found (inr (a, e)) = (n, omega arith, a, e)

      place : Below (suc n) → Below n ⊎ ((is_able (task_of t n) ≡ true) × ((task_of t n).work ≡ l))
      place (i, h, a, e) =
          ⊎_elim
          (λ q. inr (ap (λ (k : ℕ). is_able (task_of t k)) (sym q) ∙ a, ap (λ (k : ℕ). (task_of t k).work) (sym q) ∙ e))
          (λ k. inl (i, k, a, e))
          (eq-or-lt_of_le (le_of_suc-le-suc h))

  able_decides : Decides (has_able task_count l t) (HasAble l t)
  able_decides =
      record {
        holds = λ e. let (i, h, a, w) = (below_decides task_count).holds e in record { task = i; range = h; able = a; level = w };
        passes = λ x. (below_decides task_count).passes (x.task, x.range, x.able, x.level);
      }

pub level_decides : (t : Table) (l : ℕ) → Decides (is_level_right t l) ((is_set l t.ready ≡ true) ↔ HasAble l t)
unfolding is_level_right
level_decides t l = same_decides itself (able_decides l t)

-- ---- the code's own

-- No word of 64 bits is too great.
pub word_fits : (w : ℕ) → leb w 18446744073709551615 ≡ ltb w words_round
word_fits w = sym (ap is_le (compare.suc-suc w 18446744073709551615))

-- Level 0 has the top bit, which is bit 63, and each next one the bit below.
pub set_is : (l w : ℕ) → l < level_count → eqb (w / 2 ^ (63 - l) % 2) 1 ≡ is_set l w
unfolding is_set bit_of
set_is l w h = ap (λ (x : ℕ). eqb (w / x % 2) 1) (sym (shl-shr (2 ^ (63 - l)) l) ∙ ap (λ (x : ℕ). x / 2 ^ l) (sym (pow-add 2 (63 - l) l)) ∙ ap (λ (n : ℕ). 2 ^ n / 2 ^ l) back)
  where
    back : 63 - l + l ≡ 63
    back = omega arith

-- The tasks one after another.
pub able_start : (l : ℕ) (t : Table) → false ≡ has_able 0 l t
unfolding has_able
able_start l t = refl

pub able_next : (n l : ℕ) (t : Table) → (has_able n l t || (is_able (task_of t n) && eqb (task_of t n).work l)) ≡ has_able (n + 1) l t
unfolding has_able
able_next n l t = rw add-one refl
