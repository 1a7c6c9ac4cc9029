-- One entry comes to a place, another goes, and only the slots between the two move.
use Rattle.std.specs.Prelude.{◌≡◌, Bool, ◌&&◌, eqb, ltb, get_or, take, drop}
use Rattle.std.proofs.Math.Path.{refl, ap}
use Rattle.std.proofs.Common.{sym, ◌∙◌, drop_of_length-le, take_all, eq-eqb, ne_eqb, lt-ltb, le-ltb, ltb-true, ltb-false}
use Rattle.std.proofs.Math.Bool.{true, false, cond, false≢true}
use mathlib.Core.List.{List, [], ◌∷◌, ◌++◌, append-nil}
use Prim.Native.Nat.{ℕ, zero, suc, ◌+◌, ◌≤◌, ◌<◌}
use Rattle.std.proofs.Math.Decide.{ℕ_discrete}
use native.Mathlib.Omega.{arith}
use Rattle.std.proofs.Math.ListN.{length}
use Rattle.queue.specs.Slots.{first_at, same, from, place_of, place_from, push, pull, opened, closed, limit, entered, replaced}

-- The slots without the one at `from`.
unfoldable pub lifted : ℕ → List ℕ → List ℕ
lifted from l = take from l ++ drop (suc from) l

-- v between the slots, at the place `to`.
unfoldable pub laid : ℕ → ℕ → List ℕ → List ℕ
laid to v l = take to l ++ v ∷ drop to l

-- The slot `from` goes, and v comes to `to`.
abbrev pub slid : ℕ → ℕ → ℕ → List ℕ → List ℕ
slid from to v l = laid to v (lifted from l)

-- The same, where both are slots; else they stay as they came.
unfoldable pub slid_within : ℕ → ℕ → ℕ → List ℕ → List ℕ
slid_within from to v l = cond (ltb from (length l) && ltb to (length l)) (slid from to v l) l

-- ---- lengths

pub length-lifted : (from : ℕ) (l : List ℕ) → from < length l → suc (length (lifted from l)) ≡ length l
unfolding lifted
length-lifted from [] h = absurd (omega arith)
length-lifted zero (x ∷ xs) h = refl
length-lifted (suc from) (x ∷ xs) h = ap suc (length-lifted from xs (omega arith))

pub lifted_past : (from : ℕ) (l : List ℕ) → length l ≤ from → lifted from l ≡ l
unfolding lifted
lifted_past from l h = simp (take_all from l h, drop_of_length-le l {i = suc from} (omega arith), append-nil)

pub length-laid : (to v : ℕ) (l : List ℕ) → length (laid to v l) ≡ suc (length l)
unfolding laid
length-laid zero v l = refl
length-laid (suc to) v [] = refl
length-laid (suc to) v (x ∷ xs) = ap suc (length-laid to v xs)

pub length-slid : (from to v : ℕ) (l : List ℕ) → from < length l → length (slid from to v l) ≡ length l
length-slid from to v l h = length-laid to v (lifted from l) ∙ length-lifted from l h

pub slid-within : (from to v : ℕ) (l : List ℕ) → from < length l → to < length l → slid_within from to v l ≡ slid from to v l
unfolding slid_within
slid-within from to v l h k = rw (lt-ltb from (length l) h, lt-ltb to (length l) k)

pub slid_past_from : (from to v : ℕ) (l : List ℕ) → length l ≤ from → slid_within from to v l ≡ l
unfolding slid_within
slid_past_from from to v l h = rw (le-ltb from (length l) h)

pub slid_past_to : (from to v : ℕ) (l : List ℕ) → from < length l → length l ≤ to → slid_within from to v l ≡ l
unfolding slid_within
slid_past_to from to v l h k = rw (lt-ltb from (length l) h, le-ltb to (length l) k)

pub length-within : (from to v : ℕ) (l : List ℕ) → length (slid_within from to v l) ≡ length l
unfolding slid_within
length-within from to v l = go (ltb from (length l)) refl (ltb to (length l))
  where
    go : (a : Bool) → ltb from (length l) ≡ a → (b : Bool) → length (cond (a && b) (slid from to v l) l) ≡ length l
    go true e true = length-slid from to v l (ltb-true _ _ e)
    go true e false = refl
    go false e b = refl

-- ---- a slide is a removal and an insertion, where no slot between is free

-- What was pulled and is pushed again.
push-pull : (v z : ℕ) (l : List ℕ) → push v (pull (z ∷ l)) ≡ v ∷ l
unfolding push pull
push-pull v z [] = refl
push-pull v z (y ∷ ys) = go (ℕ_discrete y 0) (push-pull y y ys)
  where
    go : Dec (y ≡ 0) → push y (pull (y ∷ ys)) ≡ y ∷ ys → push v (pull (z ∷ y ∷ ys)) ≡ v ∷ y ∷ ys
    go (yes p) r = rw (eq-eqb y 0 p)
    go (no p) r = rw (ne_eqb y 0 p, r)

push-closed : (at v : ℕ) (l : List ℕ) → at < length l → at ≤ first_at (same 0) l → push v (closed at l) ≡ v ∷ lifted at l
unfolding closed lifted first_at push
push-closed at v [] h k = absurd (omega arith)
push-closed zero v (x ∷ xs) h k = push-pull v x xs
push-closed (suc at) v (x ∷ xs) h k = go (ℕ_discrete x 0) (push-closed at x xs (omega arith))
  where
    go : Dec (x ≡ 0) → (at ≤ first_at (same 0) xs → push x (closed at xs) ≡ x ∷ lifted at xs)
        → v ∷ cond (eqb x 0) (closed at xs) (push x (closed at xs)) ≡ v ∷ x ∷ lifted at xs
    go (yes p) r = absurd (let z : suc at ≤ 0 = rw (eq-eqb x 0 p) at k in omega arith)
    go (no p) r = let z : suc at ≤ suc (first_at (same 0) xs) = rw (ne_eqb x 0 p) at k in rw (ne_eqb x 0 p, r (omega arith))

-- Nearer to the front: no slot from `to` up to `from` is free.
pub slid_back : (from to v : ℕ) (l : List ℕ) → from < length l → to ≤ from → from ≤ to + first_at (same 0) (drop to l)
    → opened to v (closed from l) ≡ slid from to v l
unfolding opened closed laid lifted
slid_back from to v [] h k f = absurd (omega arith)
slid_back from zero v (x ∷ xs) h k f = push-closed from v (x ∷ xs) h (omega arith)
slid_back zero (suc to) v (x ∷ xs) h k f = absurd (omega arith)
slid_back (suc from) (suc to) v (x ∷ xs) h k f = ap (λ (r : List ℕ). x ∷ r) (slid_back from to v xs (omega arith) (omega arith) (omega arith))

-- ---- places, by a test that a free slot passes

module _ (q : ℕ → Bool) (free : q 0 ≡ true) where
  -- The first that passes is as far from the front, with the slot lifted out or closed up.
  first_pull : (z : ℕ) (l : List ℕ) → first_at q (pull (z ∷ l)) ≡ first_at q l
  unfolding first_at pull
  first_pull z [] = rw free
  first_pull z (y ∷ ys) = go (ℕ_discrete y 0) (first_pull y ys)
    where
      go : Dec (y ≡ 0) → first_at q (pull (y ∷ ys)) ≡ first_at q ys → first_at q (pull (z ∷ y ∷ ys)) ≡ first_at q (y ∷ ys)
      go (yes p) r = rw (p, free)
      go (no p) r = rw (ne_eqb y 0 p, r)

  pub first_closed : (from : ℕ) (l : List ℕ) → from < length l → first_at q (closed from l) ≡ first_at q (lifted from l)
  unfolding first_at closed lifted
  first_closed from [] h = absurd (omega arith)
  first_closed zero (x ∷ xs) h = first_pull x xs
  first_closed (suc from) (x ∷ xs) h = ap (λ (n : ℕ). cond (q x) 0 (suc n)) (first_closed from xs (omega arith))

  opened-pull : (v z : ℕ) (l : List ℕ) → opened (first_at q l) v (pull (z ∷ l)) ≡ laid (first_at q l) v l
  unfolding first_at pull opened laid push
  opened-pull v z [] = refl
  opened-pull v z (y ∷ ys) = go (q y) refl (opened-pull v y ys)
    where
      go : (b : Bool) → q y ≡ b → opened (first_at q ys) v (pull (y ∷ ys)) ≡ laid (first_at q ys) v ys
          → opened (cond b 0 (suc (first_at q ys))) v (pull (z ∷ y ∷ ys)) ≡ laid (cond b 0 (suc (first_at q ys))) v (y ∷ ys)
      go true t r = push-pull v z (y ∷ ys)
      go false t r = rw (ne_eqb y 0 (λ p. false≢true (sym t ∙ ap q p ∙ free))) (ap (λ (m : List ℕ). y ∷ m) r)

  -- Further back: up to the first that passes no slot is free.
  pub slid_on : (from v : ℕ) (l : List ℕ) → from < length l → from ≤ first_at q (lifted from l)
      → opened (first_at q (lifted from l)) v (closed from l) ≡ slid from (first_at q (lifted from l)) v l
  unfolding first_at opened closed laid lifted
  slid_on from v [] h k = absurd (omega arith)
  slid_on zero v (x ∷ xs) h k = opened-pull v x xs
  slid_on (suc from) v (x ∷ xs) h k = go (q x) refl k (slid_on from v xs (omega arith))
    where
      n : ℕ
      n = first_at q (lifted from xs)

      go : (b : Bool) → q x ≡ b → suc from ≤ cond b 0 (suc n) → (from ≤ n → opened n v (closed from xs) ≡ slid from n v xs)
          → opened (cond b 0 (suc n)) v (x ∷ closed from xs) ≡ laid (cond b 0 (suc n)) v (x ∷ lifted from xs)
      go true t k r = absurd (omega arith)
      go false t k r = ap (λ (m : List ℕ). x ∷ m) (r (omega arith))

module _ (q : ℕ → Bool) where
  -- The first that passes, part by part.
  pub first_front : (l m : List ℕ) → first_at q l < length l → first_at q (l ++ m) ≡ first_at q l
  unfolding first_at
  first_front [] m h = absurd (omega arith)
  first_front (x ∷ xs) m h = go (q x) h (first_front xs m)
    where
      go : (b : Bool) → cond b 0 (suc (first_at q xs)) < suc (length xs) → (first_at q xs < length xs → first_at q (xs ++ m) ≡ first_at q xs)
          → cond b 0 (suc (first_at q (xs ++ m))) ≡ cond b 0 (suc (first_at q xs))
      go true h r = refl
      go false h r = ap suc (r (omega arith))

  pub first_rest : (l m : List ℕ) → length l ≤ first_at q l → first_at q (l ++ m) ≡ length l + first_at q m
  unfolding first_at
  first_rest [] m h = omega arith
  first_rest (x ∷ xs) m h = go (q x) h (first_rest xs m)
    where
      go : (b : Bool) → suc (length xs) ≤ cond b 0 (suc (first_at q xs)) → (length xs ≤ first_at q xs → first_at q (xs ++ m) ≡ length xs + first_at q m)
          → cond b 0 (suc (first_at q (xs ++ m))) ≡ suc (length xs) + first_at q m
      go true h r = absurd (omega arith)
      go false h r = omega (arith, r (omega arith))

  -- What is dropped brings it no nearer than it was.
  pub first_drop : (n : ℕ) (l : List ℕ) → first_at q l ≤ n + first_at q (drop n l)
  unfolding first_at
  first_drop zero l = omega arith
  first_drop (suc n) [] = omega arith
  first_drop (suc n) (x ∷ xs) = go (q x) (first_drop n xs)
    where
      go : (b : Bool) → first_at q xs ≤ n + first_at q (drop n xs) → cond b 0 (suc (first_at q xs)) ≤ suc n + first_at q (drop n xs)
      go true h = omega arith
      go false h = omega arith

  -- It is no further than the end.
  pub first_most : (l : List ℕ) → first_at q l ≤ length l
  unfolding first_at
  first_most [] = omega arith
  first_most (x ∷ xs) = go (q x) (first_most xs)
    where
      go : (b : Bool) → first_at q xs ≤ length xs → cond b 0 (suc (first_at q xs)) ≤ suc (length xs)
      go true h = omega arith
      go false h = omega arith

-- ---- a search that ends at a free slot

-- The place of the first slot that holds v, where no slot before it is free, or the length.
unfoldable pub packed_at : ℕ → List ℕ → ℕ
packed_at v [] = 0
packed_at v (x ∷ xs) = cond (eqb x v) 0 (cond (eqb x 0) (suc (length xs)) (suc (packed_at v xs)))

-- Where it is one of the slots, it is the first that holds v, and no slot before is free.
pub packed_first : (v : ℕ) (l : List ℕ) → packed_at v l < length l → (packed_at v l ≡ first_at (same v) l) × (packed_at v l ≤ first_at (same 0) l)
unfolding packed_at first_at
packed_first v [] h = absurd (omega arith)
packed_first v (x ∷ xs) h = go (eqb x v) (eqb x 0) h (packed_first v xs)
  where
    n : ℕ
    n = packed_at v xs

    go : (a b : Bool) → cond a 0 (cond b (suc (length xs)) (suc n)) < suc (length xs)
        → (n < length xs → (n ≡ first_at (same v) xs) × (n ≤ first_at (same 0) xs))
        → (cond a 0 (cond b (suc (length xs)) (suc n)) ≡ cond a 0 (suc (first_at (same v) xs)))
        × (cond a 0 (cond b (suc (length xs)) (suc n)) ≤ cond b 0 (suc (first_at (same 0) xs)))
    go true b h r = (refl, omega arith)
    go false true h r = absurd (omega arith)
    go false false h r = let s = r (omega arith) in (ap suc s.0, omega (arith, s.1))

-- ---- an id that moves

module _ (keys : List ℕ) (n at to : ℕ) (l : List ℕ) (within : at < length l) (is : to ≡ place_from keys n (lifted at l)) where
  from_free : from keys n 0 ≡ true
  unfolding from
  from_free = refl

  -- The place is one of the slots, and the same as once the slot is closed up.
  pub to_within : to < length l
  to_within = omega (arith, first_most (from keys n) (lifted at l), length-lifted at l within)

  pub to_closed : to ≡ place_from keys n (closed at l)
  to_closed = is ∙ sym (first_closed (from keys n) from_free at l within)

  -- THE LAW: where no slot from the new place up to the old one is free, a slide between the two is what a removal and an insertion leave.
  pub moved-slid : (v : ℕ) → at ≤ to + first_at (same 0) (drop to l) → slid at to v l ≡ opened (place_from keys n (closed at l)) v (closed at l)
  moved-slid v f = rw (← to_closed) (sym (go (ltb to at) refl))
    where
      go : (b : Bool) → ltb to at ≡ b → opened to v (closed at l) ≡ slid at to v l
      go false t =
          let h : at ≤ first_at (from keys n) (lifted at l) = omega (arith, ltb-false to at t) in
          rw (← is) at (slid_on (from keys n) from_free at v l within h)
      go true t = let h : to < at = ltb-true to at t in slid_back at to v l within (omega arith) f

module _ (id at : ℕ) (l : List ℕ) (e : at ≡ packed_at (id + 1) l) (h : at < length l) where
  -- An id that is found before any free slot is found in its place.
  pub packed-found : at ≡ place_of id l
  packed-found = e ∙ (packed_first (id + 1) l (omega arith)).0

  -- A slide to its new place is then what `replaced` leaves, and that place is a slot.
  pub moved-packed : (in_front : Bool) (keys : List ℕ) (to : ℕ) → to ≡ place_from keys (limit in_front (get_or keys id 0)) (lifted at l)
      → (to < length l) × (slid at to (id + 1) l ≡ replaced in_front keys id l)
  moved-packed in_front keys to is =
      let none : at ≤ to + first_at (same 0) (drop to l) = omega (arith, (packed_first (id + 1) l (omega arith)).1, first_drop (same 0) to l) in (
        to_within keys _ at to l h is,
        moved-slid keys _ at to l h is (id + 1) none ∙ ap (λ (n : ℕ). entered in_front keys id (closed n l)) packed-found,
      )

-- The condition is needed: with a free slot between, the two differ.
pub two_shifts : opened 0 5 (closed 2 (0 ∷ 3 ∷ 5 ∷ [])) ≡ 5 ∷ 3 ∷ 0 ∷ []
unfolding opened closed push pull
two_shifts = refl

pub one_slide : slid 2 0 5 (0 ∷ 3 ∷ 5 ∷ []) ≡ 5 ∷ 0 ∷ 3 ∷ []
unfolding laid lifted
one_slide = refl
