-- Who stands beside whom in an ordered queue: equals stand together.
use Rattle.std.specs.Prelude.{◌≡◌, refl, ◌⊎◌, ◌≢◌, Bool, true, false, cond, List, [], ◌∷◌, ℕ, zero, suc, ◌+◌, ◌-◌, ◌≤◌, ◌<◌, eqb, length, get_or}
use Rattle.std.proofs.Common.{sym, ap, ◌∙◌, inl, inr, ⊎_elim, not-suc-le-zero, arith, eqb-true, eq-eqb, ne_eqb, ltb-true}
use Rattle.std.proofs.Math.Decide.{ℕ_discrete}
use Rattle.queue.specs.Slots.{key_of, first_at, same, stands}
use Rattle.queue.specs.Order.{All, none, more, Ordered, empty, front, one, count, level}
use Rattle.queue.specs.Stands.{count-stands, one_same}
use Rattle.rules.specs.Afresh.{lt_or_le}

-- ---- slots

-- What each slot is, and a free one too, slot k is.
pub all_at : {P : ℕ → Type 0} {l : List ℕ} → P 0 → All P l → (k : ℕ) → P (get_or l k 0)
all_at z none k = z
all_at z (more p a) zero = p
all_at z (more p a) (suc k) = all_at z a k

-- Of two slots the earlier holds an id of no greater key, where the later holds one.
in_order : {keys l : List ℕ} → Ordered keys l → (c d : ℕ) → c < d → get_or l d 0 ≢ 0 → (get_or l c 0 ≢ 0) × (key_of keys (get_or l c 0) ≤ key_of keys (get_or l d 0))
in_order empty c d h n = absurd (n refl)
in_order (front a o) zero zero h n = absurd (omega arith)
in_order (front a o) zero (suc d) h n = ⊎_elim (λ e. absurd (n e)) (λ p. p) (all_at (inl refl) a d)
in_order (front a o) (suc c) zero h n = absurd (omega arith)
in_order (front a o) (suc c) (suc d) h n = in_order o c d (omega arith) n

-- An id in a slot is counted; one in two slots is counted twice.
count_at : (u k : ℕ) (l : List ℕ) → u ≢ 0 → get_or l k 0 ≡ u → 1 ≤ count u l
unfolding count
count_at u k [] z e = absurd (z (sym e))
count_at u zero (x ∷ xs) z e = omega (arith, ap (one u) e ∙ one_same u)
count_at u (suc k) (x ∷ xs) z e = omega (arith, count_at u k xs z e)

twice : (u a b : ℕ) (l : List ℕ) → u ≢ 0 → a < b → get_or l a 0 ≡ u → get_or l b 0 ≡ u → 2 ≤ count u l
unfolding count
twice u a b [] z h p q = absurd (z (sym p))
twice u a zero (x ∷ xs) z h p q = absurd (omega arith)
twice u zero (suc b) (x ∷ xs) z h p q = omega (arith, ap (one u) p ∙ one_same u, count_at u b xs z q)
twice u (suc a) (suc b) (x ∷ xs) z h p q = omega (arith, twice u a b xs z (omega arith) p q)

-- The first slot that holds v holds it.
pub found : (v : ℕ) (l : List ℕ) → first_at (same v) l < length l → get_or l (first_at (same v) l) 0 ≡ v
unfolding first_at
found v [] h = absurd (not-suc-le-zero h)
found v (x ∷ xs) h = go (eqb x v) refl h (found v xs)
  where
    go : (b : Bool) → eqb x v ≡ b → cond b 0 (suc (first_at (same v) xs)) < suc (length xs) → (first_at (same v) xs < length xs → get_or xs (first_at (same v) xs) 0 ≡ v)
        → get_or (x ∷ xs) (cond b 0 (suc (first_at (same v) xs))) 0 ≡ v
    go true e h rest = eqb-true x v e
    go false e h rest = rest (omega arith)

-- An id that is counted stands at its place.
pub place_at : (v : ℕ) (l : List ℕ) → 1 ≤ count v l → get_or l (first_at (same v) l) 0 ≡ v
place_at v l h = go (stands v l) refl
  where
    go : (b : Bool) → stands v l ≡ b → get_or l (first_at (same v) l) 0 ≡ v
    go true e = found v l (ltb-true (first_at (same v) l) (length l) e)
    go false e = absurd (omega (arith, count-stands v l e))

-- ---- the neighbours of the id in slot `at`, which stands there alone

module _ {keys l : List ℕ} (o : Ordered keys l) (u at : ℕ) (there : get_or l at 0 ≡ u) (z : u ≢ 0) (once : count u l ≤ 1) where
  -- Another slot holds another.
  pub another : (k : ℕ) → k ≢ at → get_or l k 0 ≢ u
  another k d e = ⊎_elim (λ h. absurd (omega (arith, twice u k at l z h e there))) (λ h. absurd (omega (arith, twice u at k l z (omega (arith, h, d)) there e))) (lt_or_le k at)

  -- Slot k holds an id of its key.
  has_key : (k : ℕ) → get_or l k 0 ≢ 0 → key_of keys (get_or l k 0) ≡ key_of keys u → level keys (key_of keys u) (get_or l k 0) ≡ true
  has_key k n e = rw (ne_eqb (get_or l k 0) 0 n, eq-eqb (key_of keys (get_or l k 0)) (key_of keys u) e)

  -- Whoever stands before an equal, or behind one, has an equal beside it.
  module _ (b : ℕ) (n : get_or l b 0 ≢ 0) (e : key_of keys (get_or l b 0) ≡ key_of keys u) where
    behind_it : at < b → level keys (key_of keys u) (get_or l (at + 1) 0) ≡ true
    behind_it h = go (ℕ_discrete (at + 1) b)
      where
        go : Dec (at + 1 ≡ b) → level keys (key_of keys u) (get_or l (at + 1) 0) ≡ true
        go (yes p) = rw p (has_key b n e)
        go (no d) =
            let (m, f) = in_order o (at + 1) b (omega arith) n in
            let (_, g) = in_order o at (at + 1) (omega arith) m in
            has_key (at + 1) m (omega (arith, e, f, g, ap (key_of keys) there))

    before_it : b < at → level keys (key_of keys u) (get_or l (at - 1) 0) ≡ true
    before_it h = go (ℕ_discrete (at - 1) b)
      where
        go : Dec (at - 1 ≡ b) → level keys (key_of keys u) (get_or l (at - 1) 0) ≡ true
        go (yes p) = rw p (has_key b n e)
        go (no d) =
            let (m, f) = in_order o (at - 1) at (omega arith) (λ x. z (sym there ∙ x)) in
            let (_, g) = in_order o b (at - 1) (omega arith) m in
            has_key (at - 1) m (omega (arith, e, f, g, ap (key_of keys) there))

  pub equal_beside : (v : ℕ) → v ≢ u → v ≢ 0 → 1 ≤ count v l → key_of keys v ≡ key_of keys u
      → (level keys (key_of keys u) (get_or l (at + 1) 0) ≡ true) ⊎ ((at ≢ 0) × (level keys (key_of keys u) (get_or l (at - 1) 0) ≡ true))
  equal_beside v d n c e =
      let b : ℕ = first_at (same v) l in
      let p : get_or l b 0 ≡ v = place_at v l c in
      let m : get_or l b 0 ≢ 0 = λ x. n (sym p ∙ x) in
      let k : key_of keys (get_or l b 0) ≡ key_of keys u = ap (key_of keys) p ∙ e in
      let away : b ≢ at = λ x. d (sym p ∙ ap (λ (y : ℕ). get_or l y 0) x ∙ there) in
      ⊎_elim (λ h. inr ((λ x. omega arith), before_it b m k h)) (λ h. inl (behind_it b m k (omega (arith, h, away)))) (lt_or_le b at)
