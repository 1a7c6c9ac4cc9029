-- "working priority equals the one worked out afresh (the smallest base number among itself and all tasks from which a chain of
-- mutex waits leads to it, rings allowed)". Tasks are the numbers below n. `next j` is the task that holds the mutex for which j
-- waits; where there is none, it is a number that is no task, n or more.
use Rattle.std.specs.Prelude.{◌≡◌, Bool, true, false, cond, ℕ, zero, suc, ◌≤◌, ◌<◌, min, eqb, ltb}

-- ---- what is meant

-- Where k waits lead to from j.
unfoldable pub after : (ℕ → ℕ) → ℕ → ℕ → ℕ
after next zero j = j
after next (suc k) j = after next k (next j)

-- A chain of waits, of any length, leads from j to i; the chain of no wait leads from i to itself.
pub record Leads (next : ℕ → ℕ) (j i : ℕ) : Type 0 where
  pub waits : ℕ
  pub there : after next waits j ≡ i

-- What is no task waits for nothing.
abbrev pub Ends : ℕ → (ℕ → ℕ) → Type 0
Ends n next = (j : ℕ) → n ≤ j → n ≤ next j

-- p is the smallest base number among i itself and all tasks from which a chain of waits leads to i.
pub record Fresh (n : ℕ) (next base : ℕ → ℕ) (i p : ℕ) : Type 0 where
  pub least : (j : ℕ) → j < n → Leads next j i → p ≤ base j
  pub among : (j : ℕ) × (j < n) × Leads next j i × (base j ≡ p)

-- ---- the same, computed: a chain that leads to a task at all does so in fewer than n waits (`Afresh`, `short`)

-- A chain of fewer than k waits leads from j to i.
unfoldable pub leads : ℕ → (ℕ → ℕ) → ℕ → ℕ → ℕ → Bool
leads n next zero j i = false
leads n next (suc k) j i =
    let further = leads n next k (next j) i in
    cond (eqb j i) true (cond (ltb j n) further false)

-- The smallest of m and of the base numbers of those of the first k tasks that pass the test.
unfoldable pub smallest : (ℕ → Bool) → (ℕ → ℕ) → ℕ → ℕ → ℕ
smallest test base zero m = m
smallest test base (suc k) m = let before = smallest test base k m in cond (test k) (min (base k) before) before

unfoldable pub fresh : ℕ → (ℕ → ℕ) → (ℕ → ℕ) → ℕ → ℕ
fresh n next base i = smallest (λ j. leads n next n j i) base n (base i)
