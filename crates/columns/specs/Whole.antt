-- When the numbers of records, of runs and of single columns fit: column by column, from the first.
use Rattle.std.specs.Prelude.{◌≡◌, refl, true, List, [], ◌∷◌, ℕ, zero, suc, ◌+◌, ◌-◌, ◌<◌, ◌^◌, length, get_or}
use Rattle.std.proofs.Common.{not-suc-le-zero, add-zero, add-suc, suc-add, arith}
use Rattle.std.proofs.Math.Decide.{dec_lt}
use Rattle.std.proofs.Math.ListN.{get_or-eq_default}
use Rattle.columns.specs.Columns.{Column, column_of, columns, Bytes, Below, Fits, none, more}
use Rattle.columns.specs.Image.{entry-small, power}
use Rattle.columns.specs.Rows.{Kind, Stands, tabulate, tabulate_at, tabulate-long, row_of, records, record_at, records_at, columns_of, column_of_lem}
use Rattle.columns.specs.Runs.{all_wide, all_long, wide, long}
use Rattle.columns.specs.Views.{alike, width_in, RowFits, even-count}

-- Each field of a record fits its column.
abbrev pub Fit : {A : Type 0} → Kind A → List Column → A → Type 0
Fit K cs x = (j : ℕ) → j < K.wide → get_or (K.fields x) j 0 < 256 ^ width_in K cs j

pub row-fit : {A : Type 0} (K : Kind A) (cs : List Column) (vs : List ℕ) (j : ℕ) → RowFits K cs j vs → (m : ℕ) → m < length vs → get_or vs m 0 < 256 ^ width_in K cs (j + m)
row-fit K cs [] j f m h = absurd (not-suc-le-zero h)
row-fit K cs (v ∷ vs) j f zero h = rw (add-zero j) f.0.1
row-fit K cs (v ∷ vs) j f (suc m) h = rw (add-suc j m, ← suc-add j m) (row-fit K cs vs (suc j) f.1 m (omega arith))

-- The records that an image of bytes shows do.
pub records-fit : {A : Type 0} (K : Kind A) (cs : List Column) (l : List ℕ) → Bytes l → (i : ℕ) → i < K.count → Fit K cs (record_at K (records K (columns cs l)) i)
records-fit K cs l b i h j q =
    rw (records_at K (columns cs l) i h, K.shown (row_of K (columns cs l) i), tabulate_at K.wide (row_of K (columns cs l) i) j 0 q)
    (entry-small cs l b (K.first + j) i)

-- ---- columns that fit

-- Column k of t has its length, and numbers of its width.
abbrev pub FitsAt : List Column → List (List ℕ) → ℕ → Type 0
FitsAt cs t k = (length (get_or t k []) ≡ (column_of cs k).count) × Below (column_of cs k).width (get_or t k [])

pub fits_all : (cs : List Column) (t : List (List ℕ)) → length t ≡ length cs → ((k : ℕ) → k < length cs → FitsAt cs t k) → Fits cs t
fits_all [] [] n f = none
fits_all [] (x ∷ t) n f = absurd (omega arith)
fits_all (c ∷ cs) [] n f = absurd (omega arith)
fits_all (c ∷ cs) (x ∷ t) n f = more (f 0 (omega arith)).0 (f 0 (omega arith)).1 (fits_all cs t (omega arith) (λ k h. f (suc k) (omega arith)))

module _ (cs : List Column) (t : List (List ℕ)) where
  abbrev pub FitsBelow : ℕ → Type 0
  FitsBelow b = (k : ℕ) → k < b → FitsAt cs t k

  pub fits_none : FitsBelow 0
  fits_none k h = absurd (not-suc-le-zero h)

  -- Some columns behind those that fit.
  fits_next : (a m : ℕ) → ((j : ℕ) → j < m → FitsAt cs t (a + j)) → FitsBelow a → FitsBelow (a + m)
  fits_next a m f g k h = go (dec_lt k a)
    where
      go : Dec (k < a) → FitsAt cs t k
      go (yes q) = g k q
      go (no q) = let e : a + (k - a) ≡ k = omega arith in rw e at (f (k - a) (omega arith))

  pub fits_kind : {A : Type 0} (K : Kind A) → alike K cs ≡ true → (xs : List A) → Stands K.first (columns_of K xs) t → ((i : ℕ) → i < K.count → Fit K cs (record_at K xs i)) → FitsBelow K.first → FitsBelow (K.first + K.wide)
  fits_kind K even xs s f g = fits_next K.first K.wide go g
    where
      go : (j : ℕ) → j < K.wide → FitsAt cs t (K.first + j)
      go j q = rw (column_of_lem K t xs s j q, even-count K cs even j q) (tabulate-long K.count _, λ i. small i (dec_lt i K.count))
        where
          small : (i : ℕ) → Dec (i < K.count) → get_or (tabulate K.count (λ i. get_or (K.fields (record_at K xs i)) j 0)) i 0 < 256 ^ width_in K cs j
          small i (yes p) = rw (tabulate_at K.count (λ i. get_or (K.fields (record_at K xs i)) j 0) i 0 p) (f i p j q)
          small i (no p) = rw (get_or-eq_default (tabulate K.count (λ i. get_or (K.fields (record_at K xs i)) j 0)) 0 {n = i} (omega (arith, tabulate-long K.count (λ i. get_or (K.fields (record_at K xs i)) j 0)))) (power (width_in K cs j))

  pub fits_run : (a m w n : ℕ) → all_wide a m w cs ≡ true → all_long a m n cs ≡ true → (qs : List (List ℕ)) → length qs ≡ m → Stands a qs t → ((q : ℕ) → q < m → length (get_or qs q []) ≡ n) → ((q : ℕ) → q < m → Below w (get_or qs q [])) → FitsBelow a → FitsBelow (a + m)
  fits_run a m w n even-wide even qs e s f b g = fits_next a m (λ q h. rw (s q (omega arith), wide a m w n cs even-wide even q h, long a m w n cs even-wide even q h) (f q h, b q h)) g

  pub fits_one : (k : ℕ) (v : ℕ) → get_or t k [] ≡ v ∷ [] → (column_of cs k).count ≡ 1 → v < 256 ^ (column_of cs k).width → FitsBelow k → FitsBelow (k + 1)
  fits_one k v e c f g = fits_next k 1 (λ j h. let z : k + j ≡ k = omega arith in rw (z, e, c) (refl, λ i. small i)) g
    where
      small : (i : ℕ) → get_or (v ∷ []) i 0 < 256 ^ (column_of cs k).width
      small zero = f
      small (suc i) = power (column_of cs k).width
