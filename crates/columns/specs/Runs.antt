-- A run of columns with n entries of w bytes each, as queues and rows of messages are. Where w is 1, column q of the run is a part of the image
-- that can be lent.
use Rattle.std.specs.Prelude.{◌≡◌, refl, Bool, true, ℕ, zero, suc, ◌+◌, ◌*◌, ◌-◌, ◌≤◌, ◌<◌, ◌^◌, eqb, length, set, take, drop}
use Rattle.std.proofs.Common.{sym, ◌∙◌, mul-zero, mul-suc, one-mul, add-zero, add-suc, arith, eqb-true, length-drop, take_all, drop-drop, ext_get_or, get_or-set_same}
use Rattle.std.proofs.Math.Path.{ap}
use mathlib.Core.List.{List, [], ◌∷◌}
use Rattle.std.proofs.Math.Decide.{dec_lt}
use Rattle.std.proofs.Math.ListN.{get_or}
use Rattle.std.proofs.Math.Seq.{get_or-set_other}
use borrow.Rule.Slice.PartMut.{put_mid}
use Rattle.columns.specs.Columns.{splice, word_at, put_at, Column, size, total, offset, column_of, columns, entry, with_entry}
use Rattle.columns.specs.Words.{numbers_one}
use Rattle.columns.specs.Laws.{columns_at, entry_read, entry-put, column-put, column-within}
use Rattle.columns.specs.Every.{every, every_at}
use Rattle.columns.specs.Views.{alike, put_row, RowFits, row_else, Same}
use Rattle.columns.specs.Rows.{Kind, Stands, tabulate, tabulate-long, tabulate_at, tabulate-set, tabulate_same, records, Outside, apart, records_same}

-- The m columns from number a on have entries of w bytes, and n of them.
abbrev pub all_wide : ℕ → ℕ → ℕ → List Column → Bool
all_wide a m w cs = every m (λ q. eqb (column_of cs (a + q)).width w)

abbrev pub all_long : ℕ → ℕ → ℕ → List Column → Bool
all_long a m n cs = every m (λ q. eqb (column_of cs (a + q)).count n)

-- The columns of the run.
unfoldable pub run_of : ℕ → ℕ → List (List ℕ) → List (List ℕ)
run_of a m t = tabulate m (λ q. get_or t (a + q) [])

-- What is lent from a to a + n, and comes back.
pub put-lent : (a n : ℕ) (l ys : List ℕ) → put_mid a (a + n - a) l ys ≡ splice n a ys l
unfolding splice
put-lent a n l ys = let e : a + n - a ≡ n = omega arith in rw (e, drop-drop n a l)

pub offset_next : (cs : List Column) (k : ℕ) → offset cs (suc k) ≡ offset cs k + size (column_of cs k)
offset_next [] zero = refl
offset_next [] (suc k) = refl
offset_next (c ∷ cs) zero = omega arith
offset_next (c ∷ cs) (suc k) = omega (arith, offset_next cs k)

one_of : (cs : List Column) (k : ℕ) → (column_of cs k).width ≡ 1 → k < length cs
one_of [] zero e = absurd (omega arith)
one_of [] (suc k) e = absurd (omega arith)
one_of (c ∷ cs) zero e = omega arith
one_of (c ∷ cs) (suc k) e = let q = one_of cs k e in omega arith

module _ (a m w n : ℕ) (cs : List Column) (even-wide : all_wide a m w cs ≡ true) (even : all_long a m n cs ≡ true) where
  pub wide : (q : ℕ) → q < m → (column_of cs (a + q)).width ≡ w
  wide q h = eqb-true _ _ (every_at (λ q. eqb (column_of cs (a + q)).width w) m even-wide q h)

  pub long : (q : ℕ) → q < m → (column_of cs (a + q)).count ≡ n
  long q h = eqb-true _ _ (every_at (λ q. eqb (column_of cs (a + q)).count n) m even q h)

  run-size : (q : ℕ) → q < m → size (column_of cs (a + q)) ≡ w * n
  run-size q h = rw (wide q h, long q h)

  -- Column q stands w * n bytes behind the one before.
  run-place : (q : ℕ) → q < m → offset cs (a + q) ≡ offset cs a + w * n * q
  run-place zero h = rw (add-zero a, mul-zero (w * n), add-zero (offset cs a))
  run-place (suc q) h =
      let p : q < m = omega arith in
      rw (add-suc a q, offset_next cs (a + q), run-place q p, run-size q p, mul-suc (w * n) q) (omega arith)

  module _ (q j : ℕ) (h : q < m) (p : j < n) (l : List ℕ) where
    -- Entry j of column q is the number that stands there.
    pub run-read : entry (columns cs l) (a + q) j ≡ word_at w (offset cs a + w * n * q + w * j) l
    run-read = rw (wide q h, run-place q h) at (entry_read cs (a + q) j l (omega (arith, long q h)))

    -- A number put there is that entry, and no other entry of any column changes.
    pub run_write : (v : ℕ) → total cs ≤ length l → v < 256 ^ w → columns cs (put_at w (offset cs a + w * n * q + w * j) v l) ≡ with_entry (a + q) j v (columns cs l)
    run_write v t f = rw (wide q h, run-place q h) at (entry-put cs (a + q) j v l t (omega (arith, long q h)) (rw (wide q h) f))

-- ---- columns of bytes

module _ (a m n : ℕ) (cs : List Column) (bytewise : all_wide a m 1 cs ≡ true) (even : all_long a m n cs ≡ true) (q : ℕ) (h : q < m) where
  byte-size : size (column_of cs (a + q)) ≡ n
  byte-size = run-size a m 1 n cs bytewise even q h ∙ one-mul n

  byte-place : offset cs (a + q) ≡ offset cs a + n * q
  byte-place = rw (one-mul n) at (run-place a m 1 n cs bytewise even q h)

  module _ (l : List ℕ) (t : total cs ≤ length l) where
    -- Column q is what stands there.
    pub run_at : get_or (columns cs l) (a + q) [] ≡ take n (drop (offset cs a + n * q) l)
    run_at =
        let p : offset cs (a + q) ≡ offset cs a + n * q = byte-place in
        columns_at cs (a + q) l
        ∙ rw (wide a m 1 n cs bytewise even q h, long a m 1 n cs bytewise even q h, p)
        (numbers_one n (drop (offset cs a + n * q) l) (simp length-drop (omega (arith, column-within cs (a + q), byte-size))))

    -- What is put there is column q, and no other column changes.
    pub run-put : (ys : List ℕ) → length ys ≡ n → columns cs (splice n (offset cs a + n * q) ys l) ≡ set (columns cs l) (a + q) ys
    run-put ys s =
        let w : (column_of cs (a + q)).width ≡ 1 = wide a m 1 n cs bytewise even q h in
        let e : length ys ≡ size (column_of cs (a + q)) = s ∙ sym byte-size in
        (rw (byte-size, byte-place, w, long a m 1 n cs bytewise even q h) at (column-put cs (a + q) ys l t (one_of cs (a + q) w) e))
        ∙ ap (set (columns cs l) (a + q)) (numbers_one n ys (omega arith) ∙ take_all n ys (omega arith))

-- ---- one column of the run changed

module _ (t : List (List ℕ)) (k : ℕ) (ys : List ℕ) where
  pub run-set : (a m q : ℕ) → q < m → k ≡ a + q → k < length t → run_of a m (set t k ys) ≡ set (run_of a m t) q ys
  unfolding run_of
  run-set a m q h e p =
      tabulate-set m (λ j. get_or t (a + j) []) (λ j. get_or (set t k ys) (a + j) []) q h (λ j _ o. get_or-set_other t k (a + j) ys [] (λ z. o (omega arith)))
      ∙ ap (set (tabulate m (λ j. get_or t (a + j) [])) q) (rw (← e) (get_or-set_same t k ys [] p))

  -- A run that stands elsewhere is the same.
  pub run-apart : (a m : ℕ) → ((q : ℕ) → q < m → a + q ≡ k → ⊥) → run_of a m (set t k ys) ≡ run_of a m t
  unfolding run_of
  run-apart a m o = tabulate_same m _ _ (λ q h. get_or-set_other t k (a + q) ys [] (o q h))

  -- A kind that stands elsewhere shows the same records.
  pub run_kept : {A : Type 0} (K : Kind A) → Outside K k → records K (set t k ys) ≡ records K t
  unfolding entry
  run_kept K o = records_same K t (set t k ys) (λ j i q. rw (get_or-set_other t k (K.first + j) ys [] (apart K k j q o)))

  -- So does another column.
  pub run-entry : (m i : ℕ) → (m ≡ k → ⊥) → entry (set t k ys) m i ≡ entry t m i
  unfolding entry
  run-entry m i o = rw (get_or-set_other t k m ys [] o)

-- ---- with the kinds

-- What is put in the columns of a kind leaves a run that stands elsewhere.
pub row-run : {A : Type 0} (K : Kind A) (cs : List Column) → alike K cs ≡ true → (a m : ℕ) → ((q : ℕ) → q < m → Outside K (a + q))
    → (vs : List ℕ) (j i : ℕ) (l : List ℕ) → total cs ≤ length l → i < K.count → RowFits K cs j vs → run_of a m (columns cs (put_row K cs i j vs l)) ≡ run_of a m (columns cs l)
unfolding run_of
row-run K cs even a m o vs j i l h q f = tabulate_same m _ _ (λ n p. row_else K cs even vs j i l h q f (a + n) (o n p))

-- The run gives its columns back.
pub run_show : (a m : ℕ) (t u : List (List ℕ)) → run_of a m t ≡ run_of a m u → (q : ℕ) → q < m → get_or t (a + q) [] ≡ get_or u (a + q) []
unfolding run_of
run_show a m t u e q h =
    sym (tabulate_at m (λ j. get_or t (a + j) []) q [] h) ∙ ap (λ (x : List (List ℕ)). get_or x q []) e ∙ tabulate_at m (λ j. get_or u (a + j) []) q [] h

pub same_run : (cs : List Column) (l k : List ℕ) (a m : ℕ) → run_of a m (columns cs l) ≡ run_of a m (columns cs k) → Same cs l k a → Same cs l k (a + m)
unfolding entry
same_run cs l k a m e s c i h p = go (dec_lt c a)
  where
    go : Dec (c < a) → get_or (get_or (columns cs l) c []) i 0 ≡ get_or (get_or (columns cs k) c []) i 0
    go (yes q) = s c i q p
    go (no q) =
        let j : a + (c - a) ≡ c = omega arith in
        ap (λ (x : List ℕ). get_or x i 0) (rw j at (run_show a m (columns cs l) (columns cs k) e (c - a) (omega arith)))

-- The columns of a run show it, wherever they stand among others.
pub run_back : (a m : ℕ) (t qs : List (List ℕ)) → Stands a qs t → length qs ≡ m → run_of a m t ≡ qs
unfolding run_of
run_back a m t qs s n =
    ext_get_or [] (tabulate m (λ q. get_or t (a + q) [])) qs (tabulate-long m _ ∙ sym n)
    (λ q p. let o : q < m = omega (arith, tabulate-long m (λ q. get_or t (a + q) [])) in tabulate_at m (λ q. get_or t (a + q) []) q [] o ∙ s q (omega arith))
