-- The numbers of a body, read one behind the other.
use Rattle.std.specs.Prelude.{◌≡◌, ◌≢◌, refl, Bool, true, false, List, [], ◌∷◌, ℕ, suc, ◌+◌, ◌/◌, ◌%◌, ◌≤◌, ◌<◌, eqb, leb, length, get_or, take, drop}
use Rattle.std.proofs.Common.{sym, ◌∙◌, arith, drop-drop, leb-true, leb-false}
use lib.ListN.{set, length-set, get_or-eq_default, length-drop}
use lib.Seq.{get_or-set_same, get_or-set_other}
use native.Mathlib.Numerals.{add-one}
use borrow.Author.Tests.{eqb-true, eqb-false}
use Rattle.kinds.specs.Body.{numbers_at, sum_next, sum-part, numbers-length}
use Rattle.kinds.specs.Row.{packed, digit_first, digits_rest}
use Rattle.rules.specs.KindLaws.{Narrow, Same}
use Rattle.rules.specs.Tape.{little, sum, numbers}

-- The first i numbers of the body l, whose widths are ws, are found; `rest` has those to come, and `left` their widths.
pub record ReadSoFar (l ws found : List ℕ) (left : ℕ) (rest : List ℕ) (i : ℕ) : Type 0 where
  pub room : length found ≡ 6
  pub widths : left ≡ packed (drop i ws)
  pub place : rest ≡ drop (sum (take i ws)) l
  pub there : (j : ℕ) → j < i → get_or found j 0 ≡ get_or (numbers ws l) j 0

pub so_far_none : (l ws : List ℕ) {left : ℕ} → left ≡ packed ws → ReadSoFar l ws (0 ∷ 0 ∷ 0 ∷ 0 ∷ 0 ∷ 0 ∷ []) left l 0
unfolding sum
so_far_none l ws e = record { room = refl; widths = e; place = refl; there = λ j h. absurd (omega arith) }

module _ {l ws found : List ℕ} {left : ℕ} {rest : List ℕ} {i : ℕ} (n : Narrow ws) (f : ReadSoFar l ws found left rest i) where
  -- The width of the next number.
  next_width : left % 16 ≡ get_or ws i 0
  next_width = rw f.widths (digit_first ws i n.four)

  pub next_narrow : left % 16 ≤ 4
  next_narrow = rw next_width (n.four i)

  -- Its bytes stand within what is left.
  pub next_within : sum ws ≤ length l → left % 16 ≤ length rest
  next_within h = rw (f.place, length-drop) (omega (arith, next_width, sum_next ws i, sum-part ws (suc i)))

  next_value : little (take (left % 16) rest) ≡ get_or (numbers ws l) i 0
  next_value = rw (next_width, f.place, numbers_at ws i l)

  next_there : {v : ℕ} → i < 6 → v ≡ little (take (left % 16) rest) → (j : ℕ) → j < i + 1 → get_or (set found i v) j 0 ≡ get_or (numbers ws l) j 0
  next_there {v} h e j k = go (eqb j i) refl
    where
      go : (b : Bool) → eqb j i ≡ b → get_or (set found i v) j 0 ≡ get_or (numbers ws l) j 0
      go true s = rw (eqb-true j i s) (get_or-set_same found i v 0 (omega (arith, f.room)) ∙ e ∙ next_value)
      go false s =
          let other : j ≢ i = eqb-false j i s in
          get_or-set_other found i j v 0 other ∙ f.there j (omega arith)

  pub so_far_next : {v : ℕ} → i < 6 → v ≡ little (take (left % 16) rest) → ReadSoFar l ws (set found i v) (left / 16) (drop (left % 16) rest) (i + 1)
  so_far_next h e =
      let on : sum (take i ws) + left % 16 ≡ sum (take (suc i) ws) = omega (arith, next_width, sum_next ws i) in
      record {
        room = simp length-set f.room;
        widths = rw (add-one, f.widths) (digits_rest ws i n.four);
        place = rw (add-one, f.place, drop-drop, on);
        there = next_there h e;
      }

pub so_far_all : {l ws found rest : List ℕ} {left i : ℕ} → Narrow ws → ReadSoFar l ws found left rest i → 6 ≤ i → Same found (numbers ws l)
so_far_all {l} {ws} {found} {i = i} n f h j = go (leb 6 j) refl
  where
    go : (b : Bool) → leb 6 j ≡ b → get_or found j 0 ≡ get_or (numbers ws l) j 0
    go true s =
        let past : 6 ≤ j = leb-true 6 j s in
        let few : length (numbers ws l) ≤ j = rw numbers-length (omega (arith, n.six)) in
        get_or-eq_default found 0 (omega (arith, f.room)) ∙ sym (get_or-eq_default (numbers ws l) 0 few)
    go false s = f.there j (omega (arith, leb-false 6 j s))
