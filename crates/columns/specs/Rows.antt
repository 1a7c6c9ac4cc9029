-- Records seen in columns: entry i of a kind's columns is a row, and a record is made of a row.
use Rattle.std.specs.Prelude.{◌≡◌, ◌⊎◌, eqb, length, set}
use Rattle.std.proofs.Math.Path.{refl, sym, ap, ap₂, fun_ext}
use Rattle.std.proofs.Common.{◌∙◌, inl, inr, not-suc-le-zero, zero-add, add_assoc, arith, eq-eqb, ne_eqb, ext_get_or, get_or-append-add, set-set}
use Rattle.std.proofs.Math.Bool.{cond}
use mathlib.Core.List.{List, [], ◌∷◌, ◌++◌, map}
use Prim.Native.Nat.{ℕ, zero, suc, ◌+◌, ◌≤◌, ◌<◌}
use Rattle.std.proofs.Math.Decide.{ℕ_discrete}
use Rattle.std.proofs.Math.ListN.{get_or, get_or-append}
use Rattle.std.proofs.Math.Seq.{get_or-set_same, get_or-set_other}
use Rattle.std.proofs.lemmas.List.{set-get_or}
use Rattle.columns.specs.Columns.{entry, with_entry}

-- ---- definitions

-- f 0, f 1, .. to f (n - 1).
unfoldable pub tabulate : {A : Type 0} → ℕ → (ℕ → A) → List A
tabulate zero f = []
tabulate (suc n) f = f zero ∷ tabulate n (λ k. f (suc k))

-- A kind of record stands in `wide` columns from number `first` on, each with `count` entries. A row has a number for each of them, counted
-- from 0: a record is made of a row, and its fields are the row.
pub record Kind (A : Type 0) : Type 0 where
  pub first : ℕ
  pub wide : ℕ
  pub count : ℕ
  pub made : (ℕ → ℕ) → A
  pub fields : A → List ℕ
  pub shown : (r : ℕ → ℕ) → fields (made r) ≡ tabulate wide r
  pub whole : (x : A) → made (λ j. get_or (fields x) j 0) ≡ x

abbrev pub with_at : ℕ → ℕ → (ℕ → ℕ) → ℕ → ℕ
with_at k v r j = cond (eqb j k) v (r j)

module _ {A : Type 0} (K : Kind A) where
  abbrev pub row_of : List (List ℕ) → ℕ → ℕ → ℕ
  row_of t i j = entry t (K.first + j) i

  -- The records that the columns show; that of a list at i, of zeros where there is none; the list with that changed.
  unfoldable pub records : List (List ℕ) → List A
  records t = tabulate K.count (λ i. K.made (row_of t i))

  abbrev pub record_at : List A → ℕ → A
  record_at xs i = get_or xs i (K.made (λ j. 0))

  abbrev pub change : ℕ → (A → A) → List A → List A
  change i f xs = set xs i (f (record_at xs i))

  -- The record with v at column j of its kind.
  abbrev pub with_field : ℕ → ℕ → A → A
  with_field j v x = K.made (with_at j v (λ m. get_or (K.fields x) m 0))

  -- The columns that show a list of records.
  unfoldable pub columns_of : List A → List (List ℕ)
  columns_of xs = tabulate K.wide (λ j. tabulate K.count (λ i. get_or (K.fields (record_at xs i)) j 0))

-- A column with one entry, as a single number is: the kind of that number.
pub none_else : (r : ℕ → ℕ) → r 0 ∷ [] ≡ tabulate 1 r
unfolding tabulate
none_else r = refl

unfoldable pub single : ℕ → Kind ℕ
single k = record { first = k; wide = 1; count = 1; made = λ r. r 0; fields = λ x. x ∷ []; shown = none_else; whole = λ x. refl }

-- ---- lists made by a rule

module _ {A : Type 0} where
  pub tabulate-long : (n : ℕ) (f : ℕ → A) → length (tabulate n f) ≡ n
  unfolding tabulate
  tabulate-long zero f = refl
  tabulate-long (suc n) f = ap suc (tabulate-long n (λ k. f (suc k)))

  pub tabulate_at : (n : ℕ) (f : ℕ → A) (i : ℕ) (d : A) → i < n → get_or (tabulate n f) i d ≡ f i
  unfolding tabulate
  tabulate_at zero f i d h = absurd (not-suc-le-zero h)
  tabulate_at (suc n) f zero d h = refl
  tabulate_at (suc n) f (suc i) d h = tabulate_at n (λ k. f (suc k)) i d (omega arith)

  pub tabulate_same : (n : ℕ) (f g : ℕ → A) → ((i : ℕ) → i < n → g i ≡ f i) → tabulate n g ≡ tabulate n f
  unfolding tabulate
  tabulate_same zero f g h = refl
  tabulate_same (suc n) f g h =
      ap₂ (λ (x : A) (l : List A). x ∷ l) (h 0 (omega arith)) (tabulate_same n (λ k. f (suc k)) (λ k. g (suc k)) (λ i p. h (suc i) (omega arith)))

  pub tabulate-map : {B : Type 0} (h : A → B) (n : ℕ) (f : ℕ → A) → map h (tabulate n f) ≡ tabulate n (λ i. h (f i))
  unfolding tabulate
  tabulate-map h zero f = refl
  tabulate-map {B} h (suc n) f = ap (λ (l : List B). h (f 0) ∷ l) (tabulate-map h n (λ k. f (suc k)))

  -- Rules that agree but at j make lists that differ but at j.
  pub tabulate-set : (n : ℕ) (f g : ℕ → A) (j : ℕ) → j < n → ((i : ℕ) → i < n → (i ≡ j → ⊥) → g i ≡ f i) → tabulate n g ≡ set (tabulate n f) j (g j)
  unfolding tabulate
  tabulate-set zero f g j p h = absurd (not-suc-le-zero p)
  tabulate-set (suc n) f g zero p h =
      ap (λ (l : List A). g 0 ∷ l) (tabulate_same n (λ k. f (suc k)) (λ k. g (suc k)) (λ i q. h (suc i) (omega arith) (λ e. omega arith)))
  tabulate-set (suc n) f g (suc j) p h =
      ap₂ (λ (x : A) (l : List A). x ∷ l) (h 0 (omega arith) (λ e. omega arith))
      (tabulate-set n (λ k. f (suc k)) (λ k. g (suc k)) j (omega arith) (λ i q r. h (suc i) (omega arith) (λ e. r (omega arith))))

-- ---- a part of a list

-- The columns p stand in t from number a on.
abbrev pub Stands : ℕ → List (List ℕ) → List (List ℕ) → Type 0
Stands a p t = (j : ℕ) → j < length p → get_or t (a + j) [] ≡ get_or p j []

pub here : (p r : List (List ℕ)) → Stands 0 p (p ++ r)
here p r j h = rw (zero-add j) (get_or-append p r [] j h)

pub last : (p : List (List ℕ)) → Stands 0 p p
last p j h = rw (zero-add j)

pub past : (a m : ℕ) (b p r : List (List ℕ)) → length b ≡ m → Stands a p r → Stands (m + a) p (b ++ r)
past a m b p r n s j h = rw (← n, add_assoc (length b) a j) (get_or-append-add b r (a + j) [] ∙ s j h)

-- ---- an entry that is written, and every other

-- A column that has an entry i is one of them.
one_of : (t : List (List ℕ)) (k i : ℕ) → i < length (get_or t k []) → k < length t
one_of [] k i p = absurd (not-suc-le-zero p)
one_of (x ∷ t) zero i p = omega arith
one_of (x ∷ t) (suc k) i p = let q = one_of t k i p in omega arith

module _ (k i v : ℕ) (t : List (List ℕ)) (p : i < length (get_or t k [])) where
  pub entry_same : entry (with_entry k i v t) k i ≡ v
  unfolding entry with_entry
  entry_same = rw (get_or-set_same t k (set (get_or t k []) i v) [] (one_of t k i p), get_or-set_same (get_or t k []) i v 0 p)

  -- Of another column.
  pub entry-apart : (m j : ℕ) → (m ≡ k → ⊥) → entry (with_entry k i v t) m j ≡ entry t m j
  unfolding entry with_entry
  entry-apart m j o = rw (get_or-set_other t k m (set (get_or t k []) i v) [] o)

  -- Of another number.
  pub entry_other : (m j : ℕ) → (j ≡ i → ⊥) → entry (with_entry k i v t) m j ≡ entry t m j
  unfolding entry with_entry
  entry_other m j o = go (ℕ_discrete m k)
    where
      go : Dec (m ≡ k) → get_or (get_or (set t k (set (get_or t k []) i v)) m []) j 0 ≡ get_or (get_or t m []) j 0
      go (yes e) = rw (e, get_or-set_same t k (set (get_or t k []) i v) [] (one_of t k i p), get_or-set_other (get_or t k []) i j v 0 o)
      go (no n) = rw (get_or-set_other t k m (set (get_or t k []) i v) [] n)

-- ---- the records

-- Column k is none of the kind's.
abbrev pub Outside : {A : Type 0} → Kind A → ℕ → Type 0
Outside K k = (k < K.first) ⊎ (K.first + K.wide ≤ k)

module _ {A : Type 0} (K : Kind A) where
  pub records-long : (t : List (List ℕ)) → length (records K t) ≡ K.count
  unfolding records
  records-long t = tabulate-long K.count (λ i. K.made (row_of K t i))

  pub records_at : (t : List (List ℕ)) (i : ℕ) → i < K.count → record_at K (records K t) i ≡ K.made (row_of K t i)
  unfolding records
  records_at t i h = tabulate_at K.count (λ j. K.made (row_of K t j)) i (K.made (λ j. 0)) h

  again : (r : ℕ → ℕ) → K.made (λ j. get_or (tabulate K.wide r) j 0) ≡ K.made r
  again r = ap (λ (x : List ℕ). K.made (λ j. get_or x j 0)) (sym (K.shown r)) ∙ K.whole (K.made r)

  -- Rows that agree make the same record.
  pub made_same : (r s : ℕ → ℕ) → ((j : ℕ) → j < K.wide → r j ≡ s j) → K.made r ≡ K.made s
  made_same r s e = sym (again r) ∙ ap (λ (x : List ℕ). K.made (λ j. get_or x j 0)) (tabulate_same K.wide s r e) ∙ again s

  -- Columns that agree where the kind stands show the same records.
  pub records_same : (t u : List (List ℕ)) → ((j i : ℕ) → j < K.wide → entry u (K.first + j) i ≡ entry t (K.first + j) i) → records K u ≡ records K t
  unfolding records
  records_same t u e = tabulate_same K.count _ _ (λ i _. made_same _ _ (λ j q. e j i q))

  pub apart : (k j : ℕ) → j < K.wide → Outside K k → K.first + j ≡ k → ⊥
  apart k j q (inl h) e = omega arith
  apart k j q (inr h) e = omega arith

  made-with : (j v : ℕ) (r : ℕ → ℕ) → with_field K j v (K.made r) ≡ K.made (with_at j v r)
  made-with j v r = made_same _ _ (λ m p. rw (K.shown r, tabulate_at K.wide r m 0 p))

  module _ (i v : ℕ) (t : List (List ℕ)) where
    -- A number of the kind's column j that is written changes record i.
    pub records-put : (j : ℕ) → i < K.count → i < length (get_or t (K.first + j) []) → records K (with_entry (K.first + j) i v t) ≡ change K i (with_field K j v) (records K t)
    unfolding records
    records-put j q p =
        tabulate-set K.count (λ m. K.made (row_of K t m)) (λ m. K.made (row_of K (with_entry (K.first + j) i v t) m)) i q (λ m _ o. ap K.made (fun_ext (λ n. entry_other (K.first + j) i v t p (K.first + n) m o)))
        ∙ ap (set (records K t) i) (ap K.made (fun_ext (λ m. go m (ℕ_discrete m j))) ∙ sym (made-with j v (row_of K t i)) ∙ ap (with_field K j v) (sym (records_at t i q)))
      where
        go : (m : ℕ) → Dec (m ≡ j) → entry (with_entry (K.first + j) i v t) (K.first + m) i ≡ cond (eqb m j) v (entry t (K.first + m) i)
        go m (yes e) = rw (eq-eqb m j e, e) (entry_same (K.first + j) i v t p)
        go m (no n) = rw (ne_eqb m j n) (entry-apart (K.first + j) i v t p (K.first + m) i (λ e. n (omega arith)))

  -- The records give the numbers back.
  pub records_show : (t u : List (List ℕ)) → records K t ≡ records K u → (i j : ℕ) → i < K.count → j < K.wide → entry t (K.first + j) i ≡ entry u (K.first + j) i
  records_show t u s i j h p = sym (at t) ∙ ap (λ (x : List A). get_or (K.fields (record_at K x i)) j 0) s ∙ at u
    where
      at : (t : List (List ℕ)) → get_or (K.fields (record_at K (records K t) i)) j 0 ≡ entry t (K.first + j) i
      at t = rw (records_at t i h, K.shown (row_of K t i)) (tabulate_at K.wide (row_of K t i) j 0 p)

  pub columns_of_long : (xs : List A) → length (columns_of K xs) ≡ K.wide
  unfolding columns_of
  columns_of_long xs = tabulate-long K.wide _

  module _ (t : List (List ℕ)) (xs : List A) (s : Stands K.first (columns_of K xs) t) where
    -- Column j of the kind holds field j of each record.
    pub column_of_lem : (j : ℕ) → j < K.wide → get_or t (K.first + j) [] ≡ tabulate K.count (λ i. get_or (K.fields (record_at K xs i)) j 0)
    unfolding columns_of
    column_of_lem j q = s j (omega (arith, columns_of_long xs)) ∙ tabulate_at K.wide (λ j. tabulate K.count (λ i. get_or (K.fields (record_at K xs i)) j 0)) j [] q

    entry_of : (i j : ℕ) → i < K.count → j < K.wide → entry t (K.first + j) i ≡ get_or (K.fields (record_at K xs i)) j 0
    unfolding entry
    entry_of i j p q = rw (column_of_lem j q) (tabulate_at K.count (λ i. get_or (K.fields (record_at K xs i)) j 0) i 0 p)

    -- The columns that show records show them, wherever they stand among others.
    pub records_back : length xs ≡ K.count → records K t ≡ xs
    records_back n =
        ext_get_or (K.made (λ j. 0)) (records K t) xs (records-long t ∙ sym n)
        (λ i p. let q : i < K.count = omega (arith, records-long t) in records_at t i q ∙ made_same _ _ (λ j o. entry_of i j q o) ∙ K.whole (record_at K xs i))

  -- Two changes of one record are one.
  pub change_none : (i : ℕ) (xs : List A) → change K i (λ x. x) xs ≡ xs
  change_none i xs = set-get_or xs i (K.made (λ j. 0))

  pub change-change : (i : ℕ) (f g : A → A) (xs : List A) → i < length xs → change K i f (change K i g xs) ≡ change K i (λ x. f (g x)) xs
  change-change i f g xs h = rw (get_or-set_same xs i (g (record_at K xs i)) (K.made (λ j. 0)) h) (set-set xs i (g (record_at K xs i)) (f (g (record_at K xs i))))
