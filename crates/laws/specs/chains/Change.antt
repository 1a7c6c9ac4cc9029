-- Which tasks keep the number worked out afresh when a base or a wait changes: all but those to which a chain leads from one task.
use Rattle.std.specs.Prelude.{◌≡◌, refl, ◌⊎◌, ◌≢◌}
use Rattle.std.proofs.Common.{sym, ◌∙◌, inl, inr, le_trans, arith}
use Rattle.std.proofs.Math.Logic.{⊎_elim}
use Prim.Native.Nat.{ℕ, zero, suc, ◌≤◌, ◌<◌}
use Rattle.std.proofs.Math.Decide.{ℕ_discrete}
use Rattle.rules.specs.Chain.{after, Leads, Ends, Fresh, fresh}
use Rattle.rules.specs.Afresh.{here, more, split, stays_out, fresh_one, fresh_is}
use Rattle.laws.specs.chains.Walk.{Untouched}

-- Where each step of the one graph can be made up for in the other, chains that lead to j in the one do so in the other.
pub carry : {next next' : ℕ → ℕ} {j : ℕ} → ((m : ℕ) → Leads next' (next m) j → Leads next' m j) → (m : ℕ) → Leads next m j → Leads next' m j
unfolding after
carry {next} {next'} {j} step m c = go c.waits m c.there
  where
    go : (k m : ℕ) → after next k m ≡ j → Leads next' m j
    go zero m e = record { waits = 0; there = e }
    go (suc k) m e = step m (go k (next m) e)

-- No chain leads from what is no task to a task.
pub out_not : {n : ℕ} {next : ℕ → ℕ} {m j : ℕ} → Ends n next → j < n → n ≤ m → ¬ Leads next m j
out_not ends l out c = omega (arith, stays_out ends c.waits out, c.there)

-- m waits for the same task as before, or for another one, and neither leads to j.
abbrev pub SameWait : (next next' : ℕ → ℕ) → ℕ → ℕ → Type 0
SameWait next next' j m = (next' m ≡ next m) ⊎ ((¬ Leads next' (next m) j) × (¬ Leads next' (next' m) j))

-- A task j keeps its number, if no task leads to j whose base changed, and no wait that changed led or leads to j.
pub keeps_number : {n : ℕ} {next next' base base' : ℕ → ℕ} → Ends n next → Ends n next' → (j : ℕ) → j < n
    → ((m : ℕ) → (base' m ≡ base m) ⊎ (¬ Leads next' m j))
    → ((m : ℕ) → SameWait next next' j m)
    → fresh n next' base' j ≡ fresh n next base j
keeps_number {n} {next} {next'} {base} {base'} ends ends' j l bases edges =
    fresh_one
    (fresh_is base' ends' l)
    (record {
      least = λ m k c. ⊎_elim (λ e. rw e (old.least m k (back m c))) (λ d. absurd (d c)) (bases m);
      among = let (m, k, c, e) = old.among in (m, k, forth m c, ⊎_elim (λ q. q ∙ e) (λ d. absurd (d (forth m c))) (bases m));
    })
  where
    old : Fresh n next base j (fresh n next base j)
    old = fresh_is base ends l

    forth : (m : ℕ) → Leads next m j → Leads next' m j
    forth = carry (λ m c. ⊎_elim (λ e. more (rw e c)) (λ d. absurd (d.0 c)) (edges m))

    back : (m : ℕ) → Leads next' m j → Leads next m j
    back = carry (λ m c. ⊎_elim (λ e. more (rw e at c)) (λ d. absurd (d.1 (forth _ c))) (edges m))

-- ---- a change that begins at one task

-- It is s, or no task.
abbrev pub Toward : (n s m : ℕ) → Type 0
Toward n s m = (m ≡ s) ⊎ (n ≤ m)

-- Where the base of s alone changes, and each wait that changes was for s or for none and is for s or for none.
pub untouched : {n : ℕ} {next next' base base' : ℕ → ℕ} → Ends n next → Ends n next' → (s : ℕ) → ((m : ℕ) → (base' m ≡ base m) ⊎ (m ≡ s))
    → ((m : ℕ) → (next' m ≡ next m) ⊎ (Toward n s (next m) × Toward n s (next' m)))
    → Untouched n next next' base base' s
untouched {n} {next} {next'} ends ends' s bases edges j l apart =
    keeps_number ends ends' j l (λ m. ⊎_elim inl (λ e. inr (rw e apart)) (bases m)) (λ m. ⊎_elim inl (λ p. inr (off (next m) p.0, off (next' m) p.1)) (edges m))
  where
    off : (m : ℕ) → Toward n s m → ¬ Leads next' m j
    off m (inl e) = rw e apart
    off m (inr out) = out_not ends' l out

-- ---- a mutex with its waiters

-- A mutex that is free goes to w, the first of its waiters: w waits for none, and each other waiter waits for w.
pub record Handed (n : ℕ) (next next' base : ℕ → ℕ) (w : ℕ) : Type 0 where
  pub was : n ≤ next w
  pub free : n ≤ next' w
  pub others : (m : ℕ) → m ≢ w → (next' m ≡ next m) ⊎ ((m < n) × (n ≤ next m) × (next' m ≡ w) × (fresh n next base w ≤ fresh n next base m))

-- m led to w, or to a task no more urgent than w.
abbrev Behind : (n : ℕ) (next base : ℕ → ℕ) → ℕ → ℕ → Type 0
Behind n next base w m = (y : ℕ) × (y < n) × Leads next m y × (fresh n next base w ≤ fresh n next base y)

module _ {n : ℕ} {next next' base : ℕ → ℕ} {w : ℕ} (ends : Ends n next) (ends' : Ends n next') (h : Handed n next next' base w) where
  -- What leads to w now led to w, or to a waiter no more urgent than w.
  led_behind : w < n → (k m : ℕ) → after next' k m ≡ w → Behind n next base w m
  unfolding after
  led_behind l zero m e = (w, l, record { waits = 0; there = e }, omega arith)
  led_behind l (suc k) m e = go (led_behind l k (next' m) e) (ℕ_discrete m w)
    where
      go : Behind n next base w (next' m) → Dec (m ≡ w) → Behind n next base w m
      go rest (yes e) = (w, l, record { waits = 0; there = e }, omega arith)
      go (y, k, c, u) (no d) = ⊎_elim (λ q. (y, k, more (rw q at c), u)) (λ s. (m, s.0, here, s.3)) (h.others m d)

  -- No chain to a task is lost.
  lost_none : {j : ℕ} → j < n → (m : ℕ) → Leads next m j → Leads next' m j
  lost_none {j} l = carry (λ m. step m (ℕ_discrete m w))
    where
      step : (m : ℕ) → Dec (m ≡ w) → Leads next' (next m) j → Leads next' m j
      step m (yes e) c = absurd (out_not ends' l (rw e h.was) c)
      step m (no d) c = ⊎_elim (λ q. more (rw q c)) (λ s. absurd (out_not ends' l s.1 c)) (h.others m d)

  -- All keep their numbers, and no walk is needed: w gains waiters that are no more urgent.
  pub handed_kept : (j : ℕ) → j < n → fresh n next' base j ≡ fresh n next base j
  handed_kept j l = go (ℕ_discrete j w)
    where
      edge : j ≢ w → (m : ℕ) → Dec (m ≡ w) → SameWait next next' j m
      edge d m (yes e) = inr (rw e (out_not ends' l h.was, out_not ends' l h.free))
      edge d m (no e) =
          ⊎_elim inl (λ s. inr (out_not ends' l s.1, rw s.2 (λ c. ⊎_elim (λ q. d (sym q)) (out_not ends' l h.free) (split c)))) (h.others m e)

      go : Dec (j ≡ w) → fresh n next' base j ≡ fresh n next base j
      go (yes e) =
          let k : w < n = rw e at l in
          rw e
          (fresh_one
          (fresh_is base ends' k)
          (record {
            least = λ m k c. let (y, u, d, f) = led_behind (rw e at l) c.waits m c.there in le_trans f ((fresh_is base ends u).least m k d);
            among = let (m, i, c, z) = (fresh_is base ends k).among in (m, i, lost_none k m c, z);
          }))
      go (no d) = keeps_number ends ends' j l (λ m. inl refl) (λ m. edge d m (ℕ_discrete m w))
