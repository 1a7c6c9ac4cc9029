-- The working priorities of all tasks together: each base priority, carried along its chain.
use Rattle.std.specs.Prelude.{◌≡◌, refl, ◌⊎◌, cond, List, [], ◌∷◌, ltb, length, get_or, set}
use Rattle.std.proofs.Math.Path.{sym, ap}
use Rattle.std.proofs.Common.{◌∙◌, not-suc-le-zero, get_or-set_other, lt-ltb, le-ltb}
use Rattle.std.proofs.Math.Logic.{inl, inr}
use Prim.Native.Nat.{ℕ, zero, suc, ◌+◌, ◌≤◌, ◌<◌, min}
use Rattle.std.proofs.Math.Decide.{ℕ_discrete}
use native.Mathlib.Omega.{arith}
use Rattle.std.proofs.Math.ListN.{length-set}
use Rattle.std.proofs.Math.Seq.{get_or-set_same}
use Rattle.rules.specs.Chain.{after, Leads, Ends, fresh}
use Rattle.rules.specs.Afresh.{lt_or_le, here, more, stays_out, fresh_is, fresh_one}
use Rattle.rules.specs.Sound.{once}

-- ---- chains

-- One wait more, at the end of a chain.
after_last : (next : ℕ → ℕ) (k j : ℕ) → after next (suc k) j ≡ next (after next k j)
unfolding after
after_last next zero j = refl
after_last next (suc k) j = after_last next k (next j)

further : {next : ℕ → ℕ} {j i : ℕ} → Leads next j i → Leads next j (next i)
further {next} {j} {i} c = record { waits = suc c.waits; there = after_last next c.waits j ∙ ap next c.there }

-- ---- what is known while the base priorities are carried

-- The smaller of i's own base priority and of the one that it was given.
abbrev pub lower : (ℕ → ℕ) → List ℕ → ℕ → ℕ
lower base l i = min (base i) (get_or l i 0)

-- b is the base priority of a task whose chain leads to i.
unfoldable pub Source : ℕ → (ℕ → ℕ) → (ℕ → ℕ) → ℕ → ℕ → Type 0
Source n next base i b = (k : ℕ) × (k < n) × Leads next k i × (base k ≡ b)

-- The holder for which i waits has none greater than i; or i has its own still, and its turn, from j on, is to come.
unfoldable pub Edge : (ℕ → ℕ) → (ℕ → ℕ) → ℕ → List ℕ → ℕ → Type 0
Edge next base j l i = (lower base l (next i) ≤ lower base l i) ⊎ ((j ≤ i) × (lower base l i ≡ base i))

-- It was given nothing: no byte is greater.
abbrev pub not_given : ℕ
not_given = 255

-- What i was given is of use to it, or it was given nothing.
abbrev pub Useful : (ℕ → ℕ) → List ℕ → ℕ → Type 0
Useful base l i = (get_or l i 0 < base i) ⊎ (get_or l i 0 ≡ not_given)

-- The tasks below j have had their turn; each has a base priority of those whose chain leads to it.
pub record HadTurns (n : ℕ) (next base : ℕ → ℕ) (j : ℕ) (l : List ℕ) : Type 0 where
  pub size : length l ≡ n
  pub useful : (i : ℕ) → i < n → Useful base l i
  pub among : (i : ℕ) → i < n → Source n next base i (lower base l i)
  pub edges : (i : ℕ) → i < n → next i < n → Edge next base j l i

-- b is on its way, and has come to p.
pub record Carrying (n : ℕ) (next base : ℕ → ℕ) (j b p : ℕ) (l : List ℕ) : Type 0 where
  pub size : length l ≡ n
  pub useful : (i : ℕ) → i < n → Useful base l i
  pub among : (i : ℕ) → i < n → Source n next base i (lower base l i)
  pub source : Source n next base p b
  pub edges : (i : ℕ) → i < n → next i < n → Edge next base j l i ⊎ ((next i ≡ p) × (b ≤ lower base l i))

module _ {n : ℕ} {next base : ℕ → ℕ} where
  pub settled_none : {l : List ℕ} → length l ≡ n → ((i : ℕ) → i < n → get_or l i 0 ≡ not_given) → ((i : ℕ) → i < n → base i ≤ not_given) → HadTurns n next base 0 l
  unfolding Edge Source
  settled_none e s b =
      record {
        size = e;
        useful = λ i h. inr (s i h);
        among = λ i h. (i, h, here, omega (arith, s i h, b i h));
        edges = λ i h m. inr (omega arith, omega (arith, s i h, b i h));
      }

  -- The next k tasks wait for none, so they have no turn to take.
  pub settled_past : {j : ℕ} {l : List ℕ} (k : ℕ) → ((i : ℕ) → j ≤ i → i < j + k → n ≤ next i) → HadTurns n next base j l → HadTurns n next base (j + k) l
  unfolding Edge
  settled_past {j} {l} k none s = record { size = s.size; useful = s.useful; among = s.among; edges = λ i h m. edge i m (lt_or_le i (j + k)) (s.edges i h m) }
    where
      edge : (i : ℕ) → next i < n → (i < j + k) ⊎ (j + k ≤ i) → Edge next base j l i → Edge next base (j + k) l i
      edge i m d (inl x) = inl x
      edge i m (inl d) (inr x) = absurd (omega (arith, none i x.0 d))
      edge i m (inr d) (inr x) = inr (d, x.1)

  pub carrying_start : {j b p : ℕ} {l : List ℕ} → j < n → b ≡ base j → p ≡ next j → HadTurns n next base j l → Carrying n next base (j + 1) b p l
  unfolding Edge Source
  carrying_start {j} {b} {p} {l} h e q s =
      record { size = s.size; useful = s.useful; among = s.among; source = (j, h, rw q (more here), sym e); edges = λ i g m. edge i (ℕ_discrete i j) (s.edges i g m) }
    where
      edge : (i : ℕ) → Dec (i ≡ j) → Edge next base j l i → Edge next base (j + 1) l i ⊎ ((next i ≡ p) × (b ≤ lower base l i))
      edge i d (inl x) = inl (inl x)
      edge i (yes y) (inr x) = inr (ap next y ∙ sym q, omega (arith, x.1, ap base y))
      edge i (no y) (inr x) = inl (inr (omega arith, x.1))

  module _ {j b p : ℕ} {l : List ℕ} (c : Carrying n next base j b p l) where
    -- Where the chain ends, or comes to a task that has none greater.
    pub carrying_end : (p < n → lower base l p ≤ b) → HadTurns n next base j l
    unfolding Edge
    carrying_end f = record { size = c.size; useful = c.useful; among = c.among; edges = λ i h m. edge i m (c.edges i h m) }
      where
        edge : (i : ℕ) → next i < n → Edge next base j l i ⊎ ((next i ≡ p) × (b ≤ lower base l i)) → Edge next base j l i
        edge i m (inl x) = x
        edge i m (inr x) = inl (omega (arith, x.1, f (rw x.0 at m), ap (lower base l) x.0))

    pub carrying_on : {q : ℕ} → p < n → b < lower base l p → q ≡ next p → Carrying n next base j b q (set l p b)
    unfolding Edge Source
    carrying_on {q} h g e =
        record {
          size = length-set l p b ∙ c.size;
          useful = λ i m. useful i m (ℕ_discrete i p);
          among = λ i m. among i m (ℕ_discrete i p);
          source = let (k, m, f, r) = c.source in (k, m, rw e (further f), r);
          edges = λ i m o. edge i m o (ℕ_discrete i p) (ℕ_discrete (next i) p) (c.edges i m o);
        }
      where
        own : lower base (set l p b) p ≡ b
        own = omega (arith, get_or-set_same l p b 0 (omega (arith, c.size)))

        other : (i : ℕ) → (i ≡ p → ⊥) → lower base (set l p b) i ≡ lower base l i
        other i d = ap (min (base i)) (get_or-set_other l p i b 0 d)

        at : {i : ℕ} → i ≡ p → lower base (set l p b) i ≡ b
        at y = ap (lower base (set l p b)) y ∙ own

        useful : (i : ℕ) → i < n → Dec (i ≡ p) → Useful base (set l p b) i
        useful i m (yes y) = inl (rw (y, get_or-set_same l p b 0 (omega (arith, c.size))) (omega arith))
        useful i m (no y) = rw (get_or-set_other l p i b 0 y) (c.useful i m)

        among : (i : ℕ) → i < n → Dec (i ≡ p) → Source n next base i (lower base (set l p b) i)
        among i m (yes y) = rw (at y, y) c.source
        among i m (no y) = rw (other i y) (c.among i m)

        edge : (i : ℕ) → i < n → next i < n → Dec (i ≡ p) → Dec (next i ≡ p) → Edge next base j l i ⊎ ((next i ≡ p) × (b ≤ lower base l i))
            → Edge next base j (set l p b) i ⊎ ((next i ≡ q) × (b ≤ lower base (set l p b) i))
        edge i m o (yes y) d x = inr (ap next y ∙ sym e, omega (arith, at y))
        edge i m o (no y) d (inl (inr x)) = inl (inr (x.0, other i y ∙ x.1))
        edge i m o (no y) (yes d) (inl (inl x)) = inl (inl (omega (arith, at d, other i y, ap (lower base l) d)))
        edge i m o (no y) (yes d) (inr x) = inl (inl (omega (arith, x.1, at d, other i y)))
        edge i m o (no y) (no d) (inl (inl x)) = inl (inl (omega (arith, other i y, other (next i) d)))
        edge i m o (no y) (no d) (inr x) = absurd (d x.0)

  -- Once all have had their turn, each has the smallest.
  module _ (ends : Ends n next) {l : List ℕ} (s : HadTurns n next base n l) where
    down : (k j i : ℕ) → after next k j ≡ i → j < n → i < n → lower base l i ≤ lower base l j
    unfolding after Edge
    down zero j i e g h = omega (arith, ap (lower base l) e)
    down (suc k) j i e g h = go (lt_or_le (next j) n) (λ m. down k (next j) i e m h)
      where
        least : Edge next base n l j → lower base l (next j) ≤ lower base l j
        least (inl x) = x
        least (inr x) = absurd (omega (arith, x.0))

        go : (next j < n) ⊎ (n ≤ next j) → (next j < n → lower base l i ≤ lower base l (next j)) → lower base l i ≤ lower base l j
        go (inl m) rest = omega (arith, rest m, least (s.edges j g m))
        go (inr o) rest = absurd (omega (arith, e, stays_out ends k o))

    pub settled-fresh : (i : ℕ) → i < n → lower base l i ≡ fresh n next base i
    unfolding Source
    settled-fresh i h =
        fresh_one (record { least = λ j m c. omega (arith, down c.waits j i c.there m h); among = s.among i h }) (fresh_is base ends h)

    -- What each is given: the smallest, where that is smaller than its own.
    pub settled-byte : (i : ℕ) → i < n → base i ≤ not_given → get_or l i 0 ≡ cond (ltb (fresh n next base i) (base i)) (fresh n next base i) not_given
    settled-byte i h b = go (s.useful i h)
      where
        go : Useful base l i → get_or l i 0 ≡ cond (ltb (fresh n next base i) (base i)) (fresh n next base i) not_given
        go (inl u) = rw (lt-ltb (fresh n next base i) (base i) (omega (arith, settled-fresh i h, u))) (omega (arith, settled-fresh i h, u))
        go (inr u) = rw (le-ltb (fresh n next base i) (base i) (omega (arith, settled-fresh i h, u))) u

-- ---- each step lowers one number

-- How many are greater than b.
unfoldable pub above : ℕ → List ℕ → ℕ
above b [] = 0
above b (x ∷ xs) = once (ltb b x) + above b xs

pub above-set : (b : ℕ) (l : List ℕ) (j : ℕ) → j < length l → b < get_or l j 0 → above b (set l j b) < above b l
unfolding above
above-set b [] j h g = absurd (not-suc-le-zero h)
above-set b (x ∷ xs) zero h g = rw (le-ltb b b (omega arith), lt-ltb b x g) (omega arith)
above-set b (x ∷ xs) (suc j) h g = omega (arith, above-set b xs j (omega arith) g)
