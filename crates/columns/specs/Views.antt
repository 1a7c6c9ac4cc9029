-- Records seen in the columns of an image: what is read, what a number that is put changes, and that the records show every byte.
use Rattle.std.specs.Prelude.{◌≡◌, ◌⊎◌, Bool, true, ℕ, suc, ◌+◌, ◌-◌, ◌≤◌, ◌<◌, ◌^◌, eqb, length, drop}
use Rattle.std.proofs.Math.Path.{refl, sym, ap}
use Rattle.std.proofs.Common.{◌∙◌, not-suc-le-zero, arith, eqb-true}
use Rattle.std.proofs.Math.Logic.{inl, inr}
use mathlib.Core.List.{List, [], ◌∷◌}
use Rattle.std.proofs.Math.Decide.{dec_lt}
use Rattle.std.proofs.Math.ListN.{get_or}
use Rattle.std.proofs.Math.Seq.{ext_get_or, get_or-set_other}
use Rattle.columns.specs.Columns.{bytes, word_at, put_at, Column, size, total, offset, column_of, place, columns, entry, with_entry, Bytes}
use Rattle.columns.specs.Words.{bytes-long, splice-long, numbers-long}
use Rattle.columns.specs.Laws.{columns_at, entry_read, entry-put, within, column-within}
use Rattle.columns.specs.Image.{lossless}
use Rattle.columns.specs.Every.{every, every_at}
use Rattle.columns.specs.Rows.{Kind, records, record_at, change, with_field, Outside, entry_same, records-long, records_at, made_same, records_same, records-put, apart, records_show, change_none, change-change}

-- ---- definitions

-- Each column of the kind has the kind's count.
abbrev pub alike : {A : Type 0} → Kind A → List Column → Bool
alike K cs = every K.wide (λ j. eqb (column_of cs (K.first + j)).count K.count)

module _ {A : Type 0} (K : Kind A) (cs : List Column) where
  -- Where entry i of the kind's column j stands, its width, and the bytes with v there.
  abbrev pub width_in : ℕ → ℕ
  width_in j = (column_of cs (K.first + j)).width

  abbrev pub place_in : ℕ → ℕ → ℕ
  place_in j i = place cs (K.first + j) i

  abbrev pub put_in : ℕ → ℕ → ℕ → List ℕ → List ℕ
  put_in j i v l = put_at (width_in j) (place_in j i) v l

  -- The record whose numbers stand there.
  abbrev pub stored : List ℕ → ℕ → A
  stored l i = K.made (λ j. word_at (width_in j) (place_in j i) l)

  -- Numbers put one after the other, from column j on; that they fit; the record with them.
  abbrev pub put_row : ℕ → ℕ → List ℕ → List ℕ → List ℕ
  put_row i j [] l = l
  put_row i j (v ∷ vs) l = put_row i (suc j) vs (put_in j i v l)

  abbrev pub RowFits : ℕ → List ℕ → Type 0
  RowFits j [] = Unit
  RowFits j (v ∷ vs) = ((j < K.wide) × (v < 256 ^ width_in j)) × RowFits (suc j) vs

abbrev pub with_row : {A : Type 0} → Kind A → ℕ → List ℕ → A → A
with_row K j [] x = x
with_row K j (v ∷ vs) x = with_row K (suc j) vs (with_field K j v x)

-- ---- one kind

pub count_long : (cs : List Column) (k : ℕ) (l : List ℕ) → length (get_or (columns cs l) k []) ≡ (column_of cs k).count
count_long cs k l = rw (columns_at cs k l) (numbers-long (column_of cs k).width (column_of cs k).count (drop (offset cs k) l))

-- What is put is read.
module _ (cs : List Column) (k i v : ℕ) (l : List ℕ) (t : total cs ≤ length l) (h : i < (column_of cs k).count) (f : v < 256 ^ (column_of cs k).width) where
  pub put_same : entry (columns cs (put_at (column_of cs k).width (place cs k i) v l)) k i ≡ v
  put_same = rw (entry-put cs k i v l t h f) (entry_same k i v (columns cs l) (omega (arith, count_long cs k l)))

-- Each place lies within the image.
inside : (cs : List Column) (k i : ℕ) → i < (column_of cs k).count → place cs k i + (column_of cs k).width ≤ total cs
inside cs k i h = omega (arith, within (column_of cs k).width (column_of cs k).count i h, column-within cs k)

module _ {A : Type 0} (K : Kind A) (cs : List Column) (even : alike K cs ≡ true) where
  pub even-count : (j : ℕ) → j < K.wide → (column_of cs (K.first + j)).count ≡ K.count
  even-count j h = eqb-true _ _ (every_at (λ m. eqb (column_of cs (K.first + m)).count K.count) K.wide even j h)

  pub even_at : (i j : ℕ) → j < K.wide → i < K.count → i < (column_of cs (K.first + j)).count
  even_at i j h p = omega (arith, even-count j h)

  pub record_read : (l : List ℕ) (i : ℕ) → i < K.count → record_at K (records K (columns cs l)) i ≡ stored K cs l i
  record_read l i h = records_at K (columns cs l) i h ∙ made_same K _ _ (λ j p. entry_read cs (K.first + j) i l (even_at i j p h))

  -- A number that is put shows in the record.
  pub field_put : (j i v : ℕ) (l : List ℕ) → total cs ≤ length l → j < K.wide → i < K.count → v < 256 ^ width_in K cs j
      → records K (columns cs (put_in K cs j i v l)) ≡ change K i (with_field K j v) (records K (columns cs l))
  field_put j i v l h p q f =
      ap (records K) (entry-put cs (K.first + j) i v l h (even_at i j p q) f)
      ∙ records-put K i v (columns cs l) j q (omega (arith, count_long cs (K.first + j) l, even_at i j p q))

  put_in_long : (j i v : ℕ) (l : List ℕ) → total cs ≤ length l → j < K.wide → i < K.count → length (put_in K cs j i v l) ≡ length l
  put_in_long j i v l h p q = splice-long (width_in K cs j) (place_in K cs j i) (bytes (width_in K cs j) v) l (bytes-long (width_in K cs j) v) (omega (arith, inside cs (K.first + j) i (even_at i j p q)))

  pub row_put : (vs : List ℕ) (j i : ℕ) (l : List ℕ) → total cs ≤ length l → i < K.count → RowFits K cs j vs
      → records K (columns cs (put_row K cs i j vs l)) ≡ change K i (with_row K j vs) (records K (columns cs l))
  row_put [] j i l h q f = sym (change_none K i (records K (columns cs l)))
  row_put (v ∷ vs) j i l h q f =
      row_put vs (suc j) i (put_in K cs j i v l) (omega (arith, put_in_long j i v l h f.0.0 q)) q f.1
      ∙ ap (change K i (with_row K (suc j) vs)) (field_put j i v l h f.0.0 q f.0.1)
      ∙ change-change K i (with_row K (suc j) vs) (with_field K j v) (records K (columns cs l)) (omega (arith, records-long K (columns cs l)))

  -- ---- what it leaves

  -- The columns of no other kind change.
  pub row_else : (vs : List ℕ) (j i : ℕ) (l : List ℕ) → total cs ≤ length l → i < K.count → RowFits K cs j vs → (k : ℕ) → Outside K k
      → get_or (columns cs (put_row K cs i j vs l)) k [] ≡ get_or (columns cs l) k []
  unfolding with_entry
  row_else [] j i l h q f k o = refl
  row_else (v ∷ vs) j i l h q f k o =
      row_else vs (suc j) i (put_in K cs j i v l) (omega (arith, put_in_long j i v l h f.0.0 q)) q f.1 k o
      ∙ ap (λ (t : List (List ℕ)). get_or t k []) (entry-put cs (K.first + j) i v l h (even_at i j f.0.0 q) f.0.1)
      ∙ get_or-set_other (columns cs l) (K.first + j) k _ [] (λ e. apart K k j f.0.0 o (sym e))

  pub row-entry : (vs : List ℕ) (j i : ℕ) (l : List ℕ) → total cs ≤ length l → i < K.count → RowFits K cs j vs → (k n : ℕ) → Outside K k
      → entry (columns cs (put_row K cs i j vs l)) k n ≡ entry (columns cs l) k n
  unfolding entry
  row-entry vs j i l h q f k n o = ap (λ (x : List ℕ). get_or x n 0) (row_else vs j i l h q f k o)

  -- Nor do the records of another kind.
  pub row_kept : {B : Type 0} (L : Kind B) → (K.first + K.wide ≤ L.first) ⊎ (L.first + L.wide ≤ K.first)
      → (vs : List ℕ) (j i : ℕ) (l : List ℕ) → total cs ≤ length l → i < K.count → RowFits K cs j vs → records L (columns cs (put_row K cs i j vs l)) ≡ records L (columns cs l)
  unfolding entry
  row_kept L o vs j i l h q f = records_same L (columns cs l) (columns cs (put_row K cs i j vs l)) (λ m n p. ap (λ (x : List ℕ). get_or x n 0) (row_else vs j i l h q f (L.first + m) (outside m p o)))
    where
      outside : (m : ℕ) → m < L.wide → (K.first + K.wide ≤ L.first) ⊎ (L.first + L.wide ≤ K.first) → Outside K (L.first + m)
      outside m p (inl o) = inr (omega arith)
      outside m p (inr o) = inl (omega arith)

-- ---- every byte shows

pub columns-long : (cs : List Column) (l : List ℕ) → length (columns cs l) ≡ length cs
unfolding columns
columns-long [] l = refl
columns-long (c ∷ cs) l = ap suc (columns-long cs (drop (size c) l))

module _ (cs : List Column) (l m : List ℕ) where
  -- The columns below b have the same entries.
  abbrev pub Same : ℕ → Type 0
  Same b = (k i : ℕ) → k < b → i < (column_of cs k).count → entry (columns cs l) k i ≡ entry (columns cs m) k i

  pub same_none : Same 0
  same_none k i h p = absurd (not-suc-le-zero h)

  -- A kind that stands behind them shows the same records.
  pub same_next : {A : Type 0} (K : Kind A) → alike K cs ≡ true → records K (columns cs l) ≡ records K (columns cs m) → Same K.first → Same (K.first + K.wide)
  same_next K even e s k i h p = go (dec_lt k K.first)
    where
      go : Dec (k < K.first) → entry (columns cs l) k i ≡ entry (columns cs m) k i
      go (yes q) = s k i q p
      go (no q) =
          let j : K.first + (k - K.first) ≡ k = omega arith in
          let n : (column_of cs (K.first + (k - K.first))).count ≡ K.count = even-count K cs even (k - K.first) (omega arith) in
          let c : i < K.count = omega (arith, rw j at n) in
          rw j at (records_show K (columns cs l) (columns cs m) e i (k - K.first) c (omega arith))

  -- A single number that is the same.
  pub same_one : (k : ℕ) → entry (columns cs l) k 0 ≡ entry (columns cs m) k 0 → (column_of cs k).count ≡ 1 → Same k → Same (k + 1)
  same_one k e n s c i h p = go (dec_lt c k)
    where
      go : Dec (c < k) → entry (columns cs l) c i ≡ entry (columns cs m) c i
      go (yes q) = s c i q p
      go (no q) =
          let z : c ≡ k = omega arith in
          let o : i ≡ 0 = let d : i < (column_of cs k).count = rw z at p in omega arith in
          rw (z, o) e

  pub same_all : Same (length cs) → Bytes l → Bytes m → length l ≡ total cs → length m ≡ total cs → l ≡ m
  unfolding entry
  same_all e b d h k =
      lossless cs l m b d h k
      (ext_get_or [] (columns cs l) (columns cs m) (columns-long cs l ∙ sym (columns-long cs m))
      (λ j q. let p = count_long cs j l in
      ext_get_or 0 (get_or (columns cs l) j []) (get_or (columns cs m) j []) (p ∙ sym (count_long cs j m)) (λ i o. e j i (omega (arith, columns-long cs l)) (omega arith))))
