-- Nine slots at a time.
use mathlib.Core.Bool.{Bool, true, not, ◌&&◌, ◌||◌, and-true, or-true}
use mathlib.Core.List.{List, [], ◌∷◌, ◌++◌, append_assoc}
use mathlib.Core.Path.{◌≡◌, refl, ap, sym, ◌∙◌}
use Prim.Native.Nat.{ℕ, zero, suc, ◌+◌, ◌-◌, ◌≤◌}
use native.Mathlib.Omega.{arith}
use lib.Dec.{eqb}
use lib.ListN.{length, get_or, take, drop, length-drop, length-append}
use lib.Seq.{take_all, drop-cons, take_at, drop_at, length-take-le}
use borrow.Author.Tests.{eq-eqb, ne_eqb}
use borrow.Rule.Slice.PartMut.{put_mid}
use Rattle.queue.specs.Slots.{push, fall, pull, opened, fallen, closed}
use Rattle.queue.proofs.Shift.{Opening, Closing}
use Rattle.queue.specs.Packed.{has_packed, packed_enough, packed, packed_rest, push-packed, pull-packed}

-- ---- n slots from k on, one by one

unfoldable pub cells : ℕ → ℕ → List ℕ → List ℕ
cells zero k l = []
cells (suc n) k l = get_or l k 0 ∷ cells n (suc k) l

pub take_cells : (n k : ℕ) (l : List ℕ) → k + n ≤ length l → take n (drop k l) ≡ cells n k l
unfolding cells
take_cells zero k l h = refl
take_cells (suc n) k l h = rw (drop-cons l k 0 (omega arith)) (ap (λ (r : List ℕ). get_or l k 0 ∷ r) (take_cells n (suc k) l (omega arith)))

-- all from j on, as it is lent
pub part_size : (j : ℕ) (l : List ℕ) → length (take (length l - j) (drop j l)) ≡ length l - j
part_size j l = length-take-le (length l - j) (drop j l) (omega (arith, length-drop j l))

-- the test, as it is written
abbrev may : List ℕ → ℕ → ℕ → Bool
may l i k = not (eqb (get_or l i 0) 0) || eqb (get_or l k 0) 0

pub nine-packed : (j : ℕ) (l d : List ℕ) → d ≡ take (length l - j) (drop j l) → j + 9 ≤ length l
    → (may d 0 1 && (may d 1 2 && (may d 2 3 && (may d 3 4
    && (may d 4 5 && (may d 5 6 && (may d 6 7 && may d 7 8)))))))
    ≡ has_packed 9 j l
unfolding cells packed
nine-packed j l d e h =
    let w : d ≡ drop j l = e ∙ take_all (length l - j) (drop j l) (omega (arith, length-drop j l)) in
    rw w (sym (ap packed (take_cells 9 0 (drop j l) (omega (arith, length-drop j l))) ∙ simp (or-true, and-true)) ∙ packed_enough 9 j l h)

-- ---- nine slots, taken apart

data Nine : List ℕ → Type 0 where
  nine : {x0 x1 x2 x3 x4 x5 x6 x7 x8 : ℕ} {l : List ℕ} → Nine (x0 ∷ x1 ∷ x2 ∷ x3 ∷ x4 ∷ x5 ∷ x6 ∷ x7 ∷ x8 ∷ l)

nine_of : (l : List ℕ) → 9 ≤ length l → Nine l
nine_of [] h = absurd (omega arith)
nine_of (x0 ∷ []) h = absurd (omega arith)
nine_of (x0 ∷ x1 ∷ []) h = absurd (omega arith)
nine_of (x0 ∷ x1 ∷ x2 ∷ []) h = absurd (omega arith)
nine_of (x0 ∷ x1 ∷ x2 ∷ x3 ∷ []) h = absurd (omega arith)
nine_of (x0 ∷ x1 ∷ x2 ∷ x3 ∷ x4 ∷ []) h = absurd (omega arith)
nine_of (x0 ∷ x1 ∷ x2 ∷ x3 ∷ x4 ∷ x5 ∷ []) h = absurd (omega arith)
nine_of (x0 ∷ x1 ∷ x2 ∷ x3 ∷ x4 ∷ x5 ∷ x6 ∷ []) h = absurd (omega arith)
nine_of (x0 ∷ x1 ∷ x2 ∷ x3 ∷ x4 ∷ x5 ∷ x6 ∷ x7 ∷ []) h = absurd (omega arith)
nine_of (x0 ∷ x1 ∷ x2 ∷ x3 ∷ x4 ∷ x5 ∷ x6 ∷ x7 ∷ x8 ∷ l) h = nine

-- ---- a shift of the nine

push_stop : {d : List ℕ} (w : ℕ) → Nine d → packed (take 9 d) ≡ true → get_or (take 9 d) 8 0 ≡ 0
    → (0 ≡ fall w d) × ((w ∷ take 8 (take 9 d)) ++ drop 9 d ≡ push w d)
push_stop w (nine {x0} {x1} {x2} {x3} {x4} {x5} {x6} {x7} {x8} {l}) k z =
    let s = push-packed w x8 (x0 ∷ x1 ∷ x2 ∷ x3 ∷ x4 ∷ x5 ∷ x6 ∷ x7 ∷ []) l k in
    (sym (s.1 ∙ rw (eq-eqb x8 0 z)), sym (s.0 ∙ rw (eq-eqb x8 0 z)))

push_on : {d : List ℕ} (w : ℕ) → Nine d → packed (take 9 d) ≡ true → (get_or (take 9 d) 8 0 ≡ 0 → ⊥)
    → (fall (get_or (take 9 d) 8 0) (drop 9 d) ≡ fall w d) × ((w ∷ take 8 (take 9 d)) ++ push (get_or (take 9 d) 8 0) (drop 9 d) ≡ push w d)
push_on w (nine {x0} {x1} {x2} {x3} {x4} {x5} {x6} {x7} {x8} {l}) k z =
    let s = push-packed w x8 (x0 ∷ x1 ∷ x2 ∷ x3 ∷ x4 ∷ x5 ∷ x6 ∷ x7 ∷ []) l k in
    (sym (s.1 ∙ rw (ne_eqb x8 0 z)), sym (s.0 ∙ rw (ne_eqb x8 0 z)))

pull_stop : {d : List ℕ} → Nine d → packed (take 9 d) ≡ true → get_or (take 9 d) 8 0 ≡ 0
    → (take 8 (drop 1 (take 9 d)) ++ get_or (take 9 d) 8 0 ∷ []) ++ drop 9 d ≡ pull d
pull_stop (nine {x0} {x1} {x2} {x3} {x4} {x5} {x6} {x7} {x8} {l}) k z =
    let s = pull-packed x0 x8 (x1 ∷ x2 ∷ x3 ∷ x4 ∷ x5 ∷ x6 ∷ x7 ∷ []) l (packed_rest x0 (x1 ∷ x2 ∷ x3 ∷ x4 ∷ x5 ∷ x6 ∷ x7 ∷ x8 ∷ []) k) in
    sym (s ∙ rw (eq-eqb x8 0 z))

pull_on : {d : List ℕ} → Nine d → packed (take 9 d) ≡ true → (get_or (take 9 d) 8 0 ≡ 0 → ⊥)
    → take 8 (drop 1 (take 9 d)) ++ pull (get_or (take 9 d) 8 0 ∷ drop 9 d) ≡ pull d
pull_on (nine {x0} {x1} {x2} {x3} {x4} {x5} {x6} {x7} {x8} {l}) k z =
    let s = pull-packed x0 x8 (x1 ∷ x2 ∷ x3 ∷ x4 ∷ x5 ∷ x6 ∷ x7 ∷ []) l (packed_rest x0 (x1 ∷ x2 ∷ x3 ∷ x4 ∷ x5 ∷ x6 ∷ x7 ∷ x8 ∷ []) k) in
    sym (s ∙ rw (ne_eqb x8 0 z))

-- ---- the turns, with the part put back as it is lent

length-nine : {d : List ℕ} → Nine d → length (take 8 (take 9 d)) ≡ 8
length-nine nine = refl

length_eight : {d : List ℕ} → Nine d → length (take 8 (drop 1 (take 9 d))) ≡ 8
length_eight nine = refl

module _ (j : ℕ) (m : List ℕ) (fits : j + 9 ≤ length m) where
  nine_here : Nine (drop j m)
  nine_here = nine_of (drop j m) (omega (arith, length-drop j m))

  before : length (take j m) ≡ j
  before = length-take-le j m (omega arith)

  module _ (k : packed (take 9 (drop j m)) ≡ true) (n y : ℕ) (b : List ℕ) (is : n ≡ 9) (last : y ≡ get_or (take n (drop j m)) 8 0) where
    pub open_nine_stop : {at v w : ℕ} {l : List ℕ} → b ≡ w ∷ take 8 (take n (drop j m)) → y ≡ 0 → Opening at v l j w m → (0 ≡ fallen at v l) × (put_mid j n m b ≡ opened at v l)
    open_nine_stop {w = w} e z o =
        let q : get_or (take 9 (drop j m)) 8 0 ≡ 0 = rw is at (sym last ∙ z) in
        let s = push_stop w nine_here k q in
        (s.0 ∙ o.out, rw (e, is) (ap (λ (r : List ℕ). take j m ++ r) s.1) ∙ o.slots)

    pub open_nine_on : {at v w : ℕ} {l : List ℕ} → b ≡ w ∷ take 8 (take n (drop j m)) → (y ≡ 0 → ⊥) → Opening at v l j w m → Opening at v l (j + 9) y (put_mid j n m b)
    open_nine_on {w = w} e z o =
        let a : List ℕ = take j m in
        let f : List ℕ = w ∷ take 8 (take 9 (drop j m)) in
        let r : List ℕ = drop 9 (drop j m) in
        let q : y ≡ get_or (take 9 (drop j m)) 8 0 = rw is at last in
        let s = push_on w nine_here k (λ p. z (q ∙ p)) in
        let t : length (a ++ f) ≡ j + 9 = length-append a f ∙ omega (arith, length-nine nine_here, before) in
        let p : put_mid j n m b ≡ (a ++ f) ++ r = rw (e, is) (sym (append_assoc a f r)) in
        record {
          slots = rw (p, take_at (a ++ f) r (j + 9) t, drop_at (a ++ f) r (j + 9) t, q, append_assoc) (ap (λ (x : List ℕ). a ++ x) s.1 ∙ o.slots);
          out = rw (p, drop_at (a ++ f) r (j + 9) t, q) (s.0 ∙ o.out);
        }

    pub close_nine_stop : {at : ℕ} {l : List ℕ} → b ≡ take 8 (drop 1 (take n (drop j m))) ++ get_or (take n (drop j m)) 8 0 ∷ [] → y ≡ 0 → Closing at l j m → put_mid j n m b ≡ closed at l
    close_nine_stop e z o =
        let q : get_or (take 9 (drop j m)) 8 0 ≡ 0 = rw is at (sym last ∙ z) in
        rw (e, is) (ap (λ (r : List ℕ). take j m ++ r) (pull_stop nine_here k q)) ∙ o.slots

    pub close_nine_on : {at : ℕ} {l : List ℕ} → b ≡ take 8 (drop 1 (take n (drop j m))) ++ get_or (take n (drop j m)) 8 0 ∷ [] → (y ≡ 0 → ⊥) → Closing at l j m → Closing at l (j + 8) (put_mid j n m b)
    close_nine_on e z o =
        let a : List ℕ = take j m in
        let f : List ℕ = take 8 (drop 1 (take 9 (drop j m))) in
        let r : List ℕ = get_or (take 9 (drop j m)) 8 0 ∷ drop 9 (drop j m) in
        let q : y ≡ get_or (take 9 (drop j m)) 8 0 = rw is at last in
        let s = pull_on nine_here k (λ p. z (q ∙ p)) in
        let t : length (a ++ f) ≡ j + 8 = length-append a f ∙ omega (arith, length_eight nine_here, before) in
        let p : put_mid j n m b ≡ (a ++ f) ++ r = rw (e, is) (simp append_assoc) in
        record { slots = rw (p, take_at (a ++ f) r (j + 8) t, drop_at (a ++ f) r (j + 8) t, append_assoc) (ap (λ (x : List ℕ). a ++ x) s ∙ o.slots) }

-- the part that is lent has nine slots
pub part-nine : (j n : ℕ) (m : List ℕ) → j + 9 ≤ length m → n ≡ 9 → length (take n (drop j m)) ≡ 9
part-nine j n m h is = rw is (length-take-le 9 (drop j m) (omega (arith, length-drop j m)))
