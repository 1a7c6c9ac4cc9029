-- The columns of an image: where each number is read, and what a number that is put changes.
use Rattle.std.specs.Prelude.{◌≡◌, refl, List, [], ◌∷◌, ℕ, zero, suc, ◌+◌, ◌*◌, ◌≤◌, ◌<◌, ◌^◌, length, get_or, set, take, drop}
use Rattle.std.proofs.Common.{sym, ap, ap₂, ◌∙◌, not-suc-le-zero, zero-add, add-zero, add_assoc, mul-suc, mul-le-mul_left, arith, length-drop, length-take-le, drop_at, drop-drop}
use Rattle.columns.specs.Columns.{bytes, splice, word_at, put_at, numbers, Column, size, total, offset, column_of, place, columns, entry, with_entry}
use Rattle.columns.specs.Words.{bytes-long, splice_past, splice-drop, numbers_first, numbers_kept, numbers_at, numbers-put}

-- ---- what is read

pub columns_at : (cs : List Column) (k : ℕ) (l : List ℕ) → get_or (columns cs l) k [] ≡ numbers (column_of cs k).width (column_of cs k).count (drop (offset cs k) l)
unfolding columns numbers
columns_at [] zero l = refl
columns_at [] (suc k) l = refl
columns_at (c ∷ cs) zero l = refl
columns_at (c ∷ cs) (suc k) l = columns_at cs k (drop (size c) l) ∙ rw (drop-drop (offset cs k) (size c) l)

-- Entry i of column k is the number that stands at its place.
pub entry_read : (cs : List Column) (k i : ℕ) (l : List ℕ) → i < (column_of cs k).count → entry (columns cs l) k i ≡ word_at (column_of cs k).width (place cs k i) l
unfolding entry
entry_read cs k i l h =
    let w = (column_of cs k).width in
    rw (columns_at cs k l, ← drop-drop (w * i) (offset cs k) l) (numbers_at w (column_of cs k).count i (drop (offset cs k) l) h)

-- ---- what is written

-- Entry i lies within its column.
pub within : (w n i : ℕ) → i < n → w * i + w ≤ w * n
within w n i h = rw (mul-suc w i) at (mul-le-mul_left w h)

-- Bytes put within column k change that column and no other.
column-splice : (cs : List Column) (k w a : ℕ) (ys l : List ℕ) → total cs ≤ length l → length ys ≡ w → k < length cs → a + w ≤ size (column_of cs k)
    → columns cs (splice w (offset cs k + a) ys l) ≡ set (columns cs l) k (numbers (column_of cs k).width (column_of cs k).count (splice w a ys (drop (offset cs k) l)))
unfolding columns
column-splice [] k w a ys l t s h f = absurd (not-suc-le-zero h)
column-splice (c ∷ cs) zero w a ys l t s h f = rw (zero-add a) (ap (λ (r : List (List ℕ)). numbers c.width c.count (splice w a ys l) ∷ r) (ap (columns cs) (splice-drop w a (size c) ys l s f (omega arith))))
column-splice (c ∷ cs) (suc k) w a ys l t s h f =
    let m : List ℕ = splice w (offset cs k + a) ys (drop (size c) l) in
    rw (add_assoc (size c) (offset cs k) a, splice_past w (size c) (offset cs k + a) ys l, ← drop-drop (offset cs k) (size c) l)
    (ap₂ (λ (x : List ℕ) (r : List (List ℕ)). x ∷ r)
    (numbers_kept c.width c.count (size c) l m (omega arith) (omega arith))
    (ap (columns cs) (drop_at (take (size c) l) m (size c) (length-take-le (size c) l (omega arith)))
    ∙ column-splice cs k w a ys (drop (size c) l) (simp length-drop (omega arith)) s (omega arith) f))

-- Each column lies within the image.
pub column-within : (cs : List Column) (k : ℕ) → offset cs k + size (column_of cs k) ≤ total cs
column-within [] zero = omega arith
column-within [] (suc k) = omega arith
column-within (c ∷ cs) zero = omega arith
column-within (c ∷ cs) (suc k) = omega (arith, column-within cs k)

-- A column with an entry is one of them.
one_of : (cs : List Column) (k i : ℕ) → i < (column_of cs k).count → k < length cs
one_of [] zero i h = absurd (not-suc-le-zero h)
one_of [] (suc k) i h = absurd (not-suc-le-zero h)
one_of (c ∷ cs) zero i h = omega arith
one_of (c ∷ cs) (suc k) i h = let q = one_of cs k i h in omega arith

-- A number put at the place of entry i of column k is that entry, and no other entry of any column changes.
pub entry-put : (cs : List Column) (k i v : ℕ) (l : List ℕ) → total cs ≤ length l → i < (column_of cs k).count → v < 256 ^ (column_of cs k).width
    → columns cs (put_at (column_of cs k).width (place cs k i) v l) ≡ with_entry k i v (columns cs l)
unfolding with_entry
entry-put cs k i v l t h f =
    let w = (column_of cs k).width in
    let n = (column_of cs k).count in
    column-splice cs k w (w * i) (bytes w v) l t (bytes-long w v) (one_of cs k i h) (within w n i h)
    ∙ ap (set (columns cs l) k)
    (numbers-put w n i v (drop (offset cs k) l) h (simp length-drop (omega (arith, column-within cs k))) f
    ∙ ap (λ (x : List ℕ). set x i v) (sym (columns_at cs k l)))

-- Bytes put for the whole of column k are its numbers, and no other column changes.
pub column-put : (cs : List Column) (k : ℕ) (ys l : List ℕ) → total cs ≤ length l → k < length cs → length ys ≡ size (column_of cs k)
    → columns cs (splice (size (column_of cs k)) (offset cs k) ys l) ≡ set (columns cs l) k (numbers (column_of cs k).width (column_of cs k).count ys)
column-put cs k ys l t h s =
    let z = size (column_of cs k) in
    ap (λ (a : ℕ). columns cs (splice z a ys l)) (sym (add-zero (offset cs k)))
    ∙ column-splice cs k z 0 ys l t s h (omega arith)
    ∙ ap (set (columns cs l) k) (numbers_first (column_of cs k).width (column_of cs k).count ys (drop (offset cs k) l) s)
