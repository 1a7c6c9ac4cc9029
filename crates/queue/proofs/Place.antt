-- Where an id goes, by parts of the slots.
use mathlib.Core.Bool.{Bool}
use mathlib.Core.List.{List, ◌++◌}
use mathlib.Core.Path.{◌≡◌, ap, sym, ◌∙◌}
use Prim.Native.Nat.{ℕ, suc, ◌+◌, ◌-◌, ◌≤◌, ◌<◌}
use native.Mathlib.Omega.{arith}
use native.Mathlib.Numerals.{add-one}
use lib.ListN.{length, get_or, take, drop, length-drop, drop_of_length-le}
use lib.Seq.{drop-cons, take_all, length-take-le}
use borrow.Author.Tests.{eq-eqb, ne_eqb}
use Rattle.queue.specs.Slots.{first_at}
use Rattle.queue.specs.Slide.{lifted, packed_at, first_front, first_rest, first_most}

module _ (q : ℕ → Bool) (l : List ℕ) (at : ℕ) (within : at < length l) (n : ℕ) (all : n ≡ at) where
  size : length (take at l) ≡ at
  size = length-take-le at l (omega arith)

  -- In the slots before.
  pub place_front : (r : ℕ) → r ≡ first_at q (take n l) → r < at → r ≡ first_at q (lifted at l)
  unfolding lifted
  place_front r e h =
      let f : r ≡ first_at q (take at l) = rw all at e in
      f ∙ sym (first_front q (take at l) (drop (suc at) l) (omega (arith, size)))

  -- In the slots behind, where none before will do.
  pub place_rest : (r s k : ℕ) → r ≡ first_at q (take n l) → at ≤ r → k ≡ length l - (at + 1) → s ≡ first_at q (take k (drop (at + 1) l))
      → (at + s ≡ first_at q (lifted at l)) × (at + s < length l)
  unfolding lifted
  place_rest r s k e h a g =
      let f : r ≡ first_at q (take at l) = rw all at e in
      let b : drop (at + 1) l ≡ drop (suc at) l = ap (λ (i : ℕ). drop i l) (add-one at) in
      let w : take k (drop (at + 1) l) ≡ drop (suc at) l = take_all k (drop (at + 1) l) (omega (arith, length-drop (at + 1) l)) ∙ b in
      let i : s ≡ first_at q (drop (suc at) l) = rw w at g in
      let t : first_at q (take at l ++ drop (suc at) l) ≡ length (take at l) + first_at q (drop (suc at) l) =
      first_rest q (take at l) (drop (suc at) l) (omega (arith, size)) in
      (omega (arith, size), omega (arith, first_most q (drop (suc at) l), length-drop (suc at) l))

-- A scan for an id that ends at a free slot.
module _ (v : ℕ) (l : List ℕ) where
  abbrev pub Sought : ℕ → Type 0
  Sought i = packed_at v l ≡ i + packed_at v (drop i l)

  pub seek_more : (i : ℕ) → i < length l → Sought i → (get_or l i 0 ≡ v → ⊥) → (get_or l i 0 ≡ 0 → ⊥) → Sought (i + 1)
  unfolding packed_at
  seek_more i h s d e =
      let k : packed_at v (drop i l) ≡ suc (packed_at v (drop (suc i) l)) = rw (drop-cons l i 0 h, ne_eqb _ _ d, ne_eqb _ _ e) in
      rw (add-one i) (omega arith)

  pub seek_found : (i : ℕ) → i < length l → Sought i → get_or l i 0 ≡ v → i ≡ packed_at v l
  unfolding packed_at
  seek_found i h s e =
      let k : packed_at v (drop i l) ≡ 0 = rw (drop-cons l i 0 h, eq-eqb _ _ e) in
      omega arith

  pub seek_free : (i : ℕ) → i < length l → Sought i → (get_or l i 0 ≡ v → ⊥) → get_or l i 0 ≡ 0 → length l ≡ packed_at v l
  unfolding packed_at
  seek_free i h s d e =
      let k : packed_at v (drop i l) ≡ suc (length (drop (suc i) l)) = rw (drop-cons l i 0 h, ne_eqb _ _ d, eq-eqb _ _ e) in
      omega (arith, length-drop (suc i) l)

  pub seek_ended : (i : ℕ) → length l ≤ i → Sought i → i ≡ packed_at v l
  unfolding packed_at
  seek_ended i h s =
      let k : packed_at v (drop i l) ≡ 0 = rw (drop_of_length-le l h) in
      omega arith
