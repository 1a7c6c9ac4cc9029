-- Slots that are packed to the front can be shifted together, whether all hold ids or the last ones are free.
use Rattle.std.specs.Prelude.{◌≡◌, refl, Bool, true, false, cond, not, ◌&&◌, ◌||◌, List, [], ◌∷◌, ◌++◌, ℕ, ◌+◌, ◌≤◌, ◌<◌, eqb, leb, length, get_or, take, drop}
use Rattle.std.proofs.Common.{ap, sym, ◌∙◌, eq-eqb, ne_eqb, eqb-true, leb-true, le-leb}
use Rattle.std.proofs.lemmas.Bool.{false≢true, lt-leb}
use Rattle.std.proofs.Math.Decide.{ℕ_discrete}
use Rattle.queue.specs.Slots.{push, fall, pull}

-- No free slot has an id right behind it.
unfoldable pub packed : List ℕ → Bool
packed [] = true
packed (x ∷ xs) = (not (eqb x 0) || eqb (get_or xs 0 0) 0) && packed xs

-- There are n slots from j on, and they are packed.
unfoldable pub has_packed : ℕ → ℕ → List ℕ → Bool
has_packed n j l = leb (j + n) (length l) && packed (take n (drop j l))

both : (a b : Bool) → (a && b) ≡ true → (a ≡ true) × (b ≡ true)
both true b e = (refl, e)
both false b e = absurd (false≢true e)

pub has-packed : (n j : ℕ) (l : List ℕ) → has_packed n j l ≡ true → (j + n ≤ length l) × (packed (take n (drop j l)) ≡ true)
unfolding has_packed
has-packed n j l e = let t = both (leb (j + n) (length l)) (packed (take n (drop j l))) e in (leb-true _ _ t.0, t.1)

pub packed_enough : (n j : ℕ) (l : List ℕ) → j + n ≤ length l → packed (take n (drop j l)) ≡ has_packed n j l
unfolding has_packed
packed_enough n j l h = rw (le-leb _ _ h)

pub packed-short : (n j : ℕ) (l : List ℕ) → length l < j + n → false ≡ has_packed n j l
unfolding has_packed
packed-short n j l h = rw (lt-leb _ _ h)

-- All but the first are packed too.
pub packed_rest : (x : ℕ) (xs : List ℕ) → packed (x ∷ xs) ≡ true → packed xs ≡ true
unfolding packed
packed_rest x xs e = (both (not (eqb x 0) || eqb (get_or xs 0 0) 0) (packed xs) e).1

free_next : (x y : ℕ) (ys : List ℕ) → x ≡ 0 → packed (x ∷ y ∷ ys) ≡ true → y ≡ 0
unfolding packed
free_next x y ys p e = let t : (not (eqb x 0) || eqb y 0) ≡ true = (both (not (eqb x 0) || eqb y 0) (packed (y ∷ ys)) e).0 in eqb-true y 0 (rw (eq-eqb x 0 p) at t)

-- Behind a free slot all are free, and so one of them may stand before the others.
frees : (x y : ℕ) (xs l : List ℕ) → x ≡ 0 → packed (x ∷ xs ++ y ∷ []) ≡ true → (y ≡ 0) × (xs ++ y ∷ l ≡ x ∷ xs ++ l)
frees x y [] l p e = let q = free_next x y [] p e in (q, ap (λ (n : ℕ). n ∷ l) (q ∙ sym p))
frees x y (z ∷ zs) l p e =
    let q = free_next x z (zs ++ y ∷ []) p e in
    let r = frees z y zs l q (packed_rest x (z ∷ zs ++ y ∷ []) e) in
    (r.0, ap (λ (t : List ℕ). z ∷ t) r.1 ∙ ap (λ (n : ℕ). n ∷ z ∷ zs ++ l) (q ∙ sym p))

-- v comes in front of packed slots, the last of which is y: all move one further, and y goes on from there, if it is an id.
pub push-packed : (v y : ℕ) (xs l : List ℕ) → packed (xs ++ y ∷ []) ≡ true
    → (push v (xs ++ y ∷ l) ≡ v ∷ xs ++ cond (eqb y 0) l (push y l)) × (fall v (xs ++ y ∷ l) ≡ cond (eqb y 0) 0 (fall y l))
unfolding push fall
push-packed v y [] l e = (refl, refl)
push-packed v y (x ∷ xs) l e = go (ℕ_discrete x 0) (push-packed x y xs l (packed_rest x (xs ++ y ∷ []) e))
  where
    go : Dec (x ≡ 0) → (push x (xs ++ y ∷ l) ≡ x ∷ xs ++ cond (eqb y 0) l (push y l)) × (fall x (xs ++ y ∷ l) ≡ cond (eqb y 0) 0 (fall y l))
        → (push v (x ∷ xs ++ y ∷ l) ≡ v ∷ x ∷ xs ++ cond (eqb y 0) l (push y l)) × (fall v (x ∷ xs ++ y ∷ l) ≡ cond (eqb y 0) 0 (fall y l))
    go (yes p) r =
        let f = frees x y xs l p e in
        (rw (eq-eqb x 0 p, eq-eqb y 0 f.0) (ap (λ (t : List ℕ). v ∷ t) f.1), rw (eq-eqb x 0 p, eq-eqb y 0 f.0))
    go (no p) r = (rw (ne_eqb x 0 p) (ap (λ (t : List ℕ). v ∷ t) r.0), rw (ne_eqb x 0 p) r.1)

-- The slot before packed ones goes: they move one nearer, and those behind y follow, if it is an id.
pub pull-packed : (u y : ℕ) (xs l : List ℕ) → packed (xs ++ y ∷ []) ≡ true → pull (u ∷ xs ++ y ∷ l) ≡ xs ++ y ∷ cond (eqb y 0) (y ∷ l) (pull (y ∷ l))
unfolding pull
pull-packed u y [] l e = refl
pull-packed u y (x ∷ xs) l e = go (ℕ_discrete x 0) (pull-packed x y xs l (packed_rest x (xs ++ y ∷ []) e))
  where
    go : Dec (x ≡ 0) → pull (x ∷ xs ++ y ∷ l) ≡ xs ++ y ∷ cond (eqb y 0) (y ∷ l) (pull (y ∷ l))
        → pull (u ∷ x ∷ xs ++ y ∷ l) ≡ x ∷ xs ++ y ∷ cond (eqb y 0) (y ∷ l) (pull (y ∷ l))
    go (yes p) r =
        let f = frees x y xs (y ∷ l) p e in
        rw (eq-eqb x 0 p, eq-eqb y 0 f.0) (ap (λ (t : List ℕ). x ∷ t) (sym f.1))
    go (no p) r = rw (ne_eqb x 0 p) (ap (λ (t : List ℕ). x ∷ t) r)
