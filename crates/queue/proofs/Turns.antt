-- A slide in place, turn by turn: on one side of j the slots are done, on the other as they came.
use mathlib.Core.Path.{◌≡◌, refl, ap, sym, ◌∙◌}
use mathlib.Core.List.{List, [], ◌∷◌, ◌++◌}
use Prim.Native.Nat.{ℕ, zero, suc, ◌+◌, ◌-◌, ◌≤◌, ◌<◌}
use native.Mathlib.Omega.{arith}
use native.Mathlib.Numerals.{add-one}
use lib.ListN.{length, get_or, take, drop, set}
use Rattle.queue.specs.Slide.{lifted, laid, slid, length-lifted, length-slid}

-- ---- two lists of one length, met at j

unfoldable pub mix : ℕ → List ℕ → List ℕ → List ℕ
mix j a b = take j a ++ drop j b

-- The meeting moves one further, and one nearer.
pub mix_up : (j : ℕ) (a b : List ℕ) → j < length a → j < length b → set (mix j a b) j (get_or a j 0) ≡ mix (suc j) a b
unfolding mix
mix_up j [] b h k = absurd (omega arith)
mix_up j (x ∷ xs) [] h k = absurd (omega arith)
mix_up zero (x ∷ xs) (y ∷ ys) h k = refl
mix_up (suc j) (x ∷ xs) (y ∷ ys) h k = ap (λ (r : List ℕ). x ∷ r) (mix_up j xs ys (omega arith) (omega arith))

pub mix_down : (j : ℕ) (a b : List ℕ) → j < length a → j < length b → set (mix (suc j) a b) j (get_or b j 0) ≡ mix j a b
unfolding mix
mix_down j [] b h k = absurd (omega arith)
mix_down j (x ∷ xs) [] h k = absurd (omega arith)
mix_down zero (x ∷ xs) (y ∷ ys) h k = refl
mix_down (suc j) (x ∷ xs) (y ∷ ys) h k = ap (λ (r : List ℕ). x ∷ r) (mix_down j xs ys (omega arith) (omega arith))

-- What stands on either side.
pub mix-after : (j i : ℕ) (a b : List ℕ) → j ≤ length a → j ≤ length b → j ≤ i → get_or (mix j a b) i 0 ≡ get_or b i 0
unfolding mix
mix-after zero i a b h k o = refl
mix-after (suc j) i [] b h k o = absurd (omega arith)
mix-after (suc j) i (x ∷ xs) [] h k o = absurd (omega arith)
mix-after (suc j) zero (x ∷ xs) (y ∷ ys) h k o = absurd (omega arith)
mix-after (suc j) (suc i) (x ∷ xs) (y ∷ ys) h k o = mix-after j i xs ys (omega arith) (omega arith) (omega arith)

pub mix-before : (j i : ℕ) (a b : List ℕ) → j ≤ length a → j ≤ length b → i < j → get_or (mix j a b) i 0 ≡ get_or a i 0
unfolding mix
mix-before zero i a b h k o = absurd (omega arith)
mix-before (suc j) i [] b h k o = absurd (omega arith)
mix-before (suc j) i (x ∷ xs) [] h k o = absurd (omega arith)
mix-before (suc j) zero (x ∷ xs) (y ∷ ys) h k o = refl
mix-before (suc j) (suc i) (x ∷ xs) (y ∷ ys) h k o = mix-before j i xs ys (omega arith) (omega arith) (omega arith)

-- ---- where each slot comes from

laid-before : (to i v : ℕ) (l : List ℕ) → i < to → i < length l → get_or (laid to v l) i 0 ≡ get_or l i 0
unfolding laid
laid-before to i v [] h k = absurd (omega arith)
laid-before zero i v (x ∷ xs) h k = absurd (omega arith)
laid-before (suc to) zero v (x ∷ xs) h k = refl
laid-before (suc to) (suc i) v (x ∷ xs) h k = laid-before to i v xs (omega arith) (omega arith)

laid_at : (to v : ℕ) (l : List ℕ) → to ≤ length l → get_or (laid to v l) to 0 ≡ v
unfolding laid
laid_at zero v l h = refl
laid_at (suc to) v [] h = absurd (omega arith)
laid_at (suc to) v (x ∷ xs) h = laid_at to v xs (omega arith)

lifted-before : (from i : ℕ) (l : List ℕ) → i < from → from < length l → get_or (lifted from l) i 0 ≡ get_or l i 0
unfolding lifted
lifted-before from i [] h k = absurd (omega arith)
lifted-before zero i (x ∷ xs) h k = absurd (omega arith)
lifted-before (suc from) zero (x ∷ xs) h k = refl
lifted-before (suc from) (suc i) (x ∷ xs) h k = lifted-before from i xs (omega arith) (omega arith)

pub slid_to : (from to v : ℕ) (l : List ℕ) → from < length l → to < length l → get_or (slid from to v l) to 0 ≡ v
slid_to from to v l h k = laid_at to v (lifted from l) (omega (arith, length-lifted from l h))

pub slid_nearer : (from to i v : ℕ) (l : List ℕ) → from ≤ i → i < to → to < length l → get_or (slid from to v l) i 0 ≡ get_or l (suc i) 0
unfolding lifted laid
slid_nearer from to i v [] h k b = absurd (omega arith)
slid_nearer zero to i v (x ∷ xs) h k b = laid-before to i v xs k (omega arith)
slid_nearer (suc from) zero i v (x ∷ xs) h k b = absurd (omega arith)
slid_nearer (suc from) (suc to) zero v (x ∷ xs) h k b = absurd (omega arith)
slid_nearer (suc from) (suc to) (suc i) v (x ∷ xs) h k b = slid_nearer from to i v xs (omega arith) (omega arith) (omega arith)

pub slid-further : (from to i v : ℕ) (l : List ℕ) → to ≤ i → i < from → from < length l → get_or (slid from to v l) (suc i) 0 ≡ get_or l i 0
unfolding lifted laid
slid-further from to i v [] h k b = absurd (omega arith)
slid-further from zero i v (x ∷ xs) h k b = lifted-before from i (x ∷ xs) k b
slid-further zero (suc to) i v (x ∷ xs) h k b = absurd (omega arith)
slid-further (suc from) (suc to) zero v (x ∷ xs) h k b = absurd (omega arith)
slid-further (suc from) (suc to) (suc i) v (x ∷ xs) h k b = slid-further from to i v xs (omega arith) (omega arith) (omega arith)

-- ---- before the first turn, and after the last

pub on_start : (from to v : ℕ) (l : List ℕ) → from ≤ to → to < length l → mix from (slid from to v l) l ≡ l
unfolding mix lifted laid
on_start from to v [] h b = absurd (omega arith)
on_start zero to v (x ∷ xs) h b = refl
on_start (suc from) zero v (x ∷ xs) h b = absurd (omega arith)
on_start (suc from) (suc to) v (x ∷ xs) h b = ap (λ (r : List ℕ). x ∷ r) (on_start from to v xs (omega arith) (omega arith))

laid_end : (to v : ℕ) (l : List ℕ) → to ≤ length l → take (suc to) (laid to v l) ++ drop to l ≡ laid to v l
unfolding laid
laid_end zero v l h = refl
laid_end (suc to) v [] h = absurd (omega arith)
laid_end (suc to) v (x ∷ xs) h = ap (λ (r : List ℕ). x ∷ r) (laid_end to v xs (omega arith))

pub on_end : (from to v : ℕ) (l : List ℕ) → from ≤ to → to < length l → mix (suc to) (slid from to v l) l ≡ slid from to v l
unfolding mix lifted laid
on_end from to v [] h b = absurd (omega arith)
on_end zero to v (x ∷ xs) h b = laid_end to v xs (omega arith)
on_end (suc from) zero v (x ∷ xs) h b = absurd (omega arith)
on_end (suc from) (suc to) v (x ∷ xs) h b = ap (λ (r : List ℕ). x ∷ r) (on_end from to v xs (omega arith) (omega arith))

lifted_end : (from : ℕ) (l : List ℕ) → from < length l → take (suc from) l ++ drop from (lifted from l) ≡ l
unfolding lifted
lifted_end from [] h = absurd (omega arith)
lifted_end zero (x ∷ xs) h = refl
lifted_end (suc from) (x ∷ xs) h = ap (λ (r : List ℕ). x ∷ r) (lifted_end from xs (omega arith))

pub back_start : (from to v : ℕ) (l : List ℕ) → to ≤ from → from < length l → mix (suc from) l (slid from to v l) ≡ l
unfolding mix lifted laid
back_start from to v [] h b = absurd (omega arith)
back_start from zero v (x ∷ xs) h b = lifted_end from (x ∷ xs) b
back_start zero (suc to) v (x ∷ xs) h b = absurd (omega arith)
back_start (suc from) (suc to) v (x ∷ xs) h b = ap (λ (r : List ℕ). x ∷ r) (back_start from to v xs (omega arith) (omega arith))

pub back_end : (from to v : ℕ) (l : List ℕ) → to ≤ from → from < length l → mix to l (slid from to v l) ≡ slid from to v l
unfolding mix lifted laid
back_end from to v [] h b = absurd (omega arith)
back_end from zero v (x ∷ xs) h b = refl
back_end zero (suc to) v (x ∷ xs) h b = absurd (omega arith)
back_end (suc from) (suc to) v (x ∷ xs) h b = ap (λ (r : List ℕ). x ∷ r) (back_end from to v xs (omega arith) (omega arith))

-- ---- the turns

pub record On (from to v : ℕ) (l : List ℕ) (j : ℕ) (m : List ℕ) : Type 0 where
  pub low : from ≤ j
  pub high : j ≤ to
  pub fits : to < length l
  pub slots : m ≡ mix j (slid from to v l) l

pub on_first : (from to v : ℕ) (l : List ℕ) → from ≤ to → to < length l → On from to v l from l
on_first from to v l h b = record { low = omega arith; high = h; fits = b; slots = sym (on_start from to v l h b) }

module _ {from to v : ℕ} {l : List ℕ} {j : ℕ} {m : List ℕ} where
  pub on_turn : j < to → On from to v l j m → On from to v l (j + 1) (set m j (get_or m (j + 1) 0))
  on_turn h o =
      let b = o.fits in
      let r = slid from to v l in
      let n : length r ≡ length l = length-slid from to v l (omega arith) in
      let y : get_or m (suc j) 0 ≡ get_or r j 0 = rw o.slots (mix-after j (suc j) r l (omega arith) (omega arith) (omega arith) ∙ sym (slid_nearer from to j v l o.low h b)) in
      let s : set m j (get_or m (suc j) 0) ≡ mix (suc j) r l = rw (y, o.slots) (mix_up j r l (omega arith) (omega arith)) in
      record { low = omega arith; high = omega arith; fits = b; slots = rw (add-one j) s }

  pub on_last : to ≤ j → On from to v l j m → set m to v ≡ slid from to v l
  on_last h o =
      let b = o.fits in
      let r = slid from to v l in
      let n : length r ≡ length l = length-slid from to v l (omega arith) in
      let e : j ≡ to = omega arith in
      let y : get_or r to 0 ≡ v = slid_to from to v l (omega arith) b in
      let s : set (mix to r l) to (get_or r to 0) ≡ mix (suc to) r l = mix_up to r l (omega arith) b in
      rw (o.slots, e) (rw y at s ∙ on_end from to v l (omega arith) b)

pub record Back (from to v : ℕ) (l : List ℕ) (j : ℕ) (m : List ℕ) : Type 0 where
  pub low : to ≤ j
  pub high : j ≤ from
  pub fits : from < length l
  pub slots : m ≡ mix (suc j) l (slid from to v l)

pub back_first : (from to v : ℕ) (l : List ℕ) → to ≤ from → from < length l → Back from to v l from l
back_first from to v l h b = record { low = h; high = omega arith; fits = b; slots = sym (back_start from to v l h b) }

module _ {from to v : ℕ} {l : List ℕ} {m : List ℕ} where
  back_suc : (i : ℕ) → to ≤ i → Back from to v l (suc i) m → Back from to v l i (set m (suc i) (get_or m i 0))
  back_suc i h o =
      let b = o.fits in
      let r = slid from to v l in
      let n : length r ≡ length l = length-slid from to v l b in
      let y : get_or m i 0 ≡ get_or r (suc i) 0 =
      rw o.slots (mix-before (suc (suc i)) i l r (omega arith) (omega arith) (omega arith) ∙ sym (slid-further from to i v l h (omega arith) b)) in
      let s : set m (suc i) (get_or m i 0) ≡ mix (suc i) l r = rw (y, o.slots) (mix_down (suc i) l r (omega arith) (omega arith)) in
      record { low = h; high = omega arith; fits = b; slots = s }

  pub back_turn : (j k : ℕ) → k ≡ j - 1 + 1 → to < j → Back from to v l j m → Back from to v l (j - 1) (set m k (get_or m (j - 1) 0))
  back_turn zero k e h o = absurd (omega arith)
  back_turn (suc i) k e h o =
      let s : suc i - 1 ≡ i = omega arith in
      let q : k ≡ suc i = omega arith in
      rw (q, s) (back_suc i (omega arith) o)

  pub back_last : (j : ℕ) → j ≤ to → Back from to v l j m → set m to v ≡ slid from to v l
  back_last j h o =
      let b = o.fits in
      let r = slid from to v l in
      let n : length r ≡ length l = length-slid from to v l b in
      let e : j ≡ to = omega arith in
      let y : get_or r to 0 ≡ v = slid_to from to v l b (omega arith) in
      let s : set (mix (suc to) l r) to (get_or r to 0) ≡ mix to l r = mix_down to l r (omega arith) (omega arith) in
      rw (o.slots, e) (rw y at s ∙ back_end from to v l (omega arith) b)
