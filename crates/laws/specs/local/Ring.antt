-- Rings: the test, which changes of waits close one and which do not, and how long a chain is without one.
use Rattle.std.specs.Prelude.{◌≡◌, ◌⊎◌, ◌≢◌, ◌↔◌, Bool}
use Rattle.std.proofs.Math.Path.{refl, ap}
use Rattle.std.proofs.Common.{sym, ◌∙◌, ⊎_elim, true≢false, not-suc-le-zero, eq-or-lt_of_le, le_of_suc-le-suc, ltb-false, le-ltb}
use Rattle.std.proofs.Math.Logic.{inl, inr}
use Rattle.std.proofs.Math.Bool.{true, false, cond}
use Rattle.std.proofs.lemmas.Bool.{false≢true}
use Prim.Native.Nat.{ℕ, zero, suc, ◌+◌, ◌-◌, ◌≤◌, ◌<◌}
use Rattle.std.proofs.Math.Decide.{ℕ_discrete}
use native.Mathlib.Omega.{arith}
use Rattle.std.proofs.Math.Dec.{ltb}
use Rattle.rules.specs.Chain.{after, Leads, Ends, leads}
use Rattle.rules.specs.Afresh.{lt_or_le, add_sub, Twice, pigeon, here, more, split, after_add, stays_out, inside, short, leads-sound, leads_complete}
use Rattle.laws.specs.chains.Change.{carry, out_not}
use Rattle.laws.specs.local.Local.{NoRing, ringless}

-- ---- chains

-- The last wait of a chain.
pub after_last : (next : ℕ → ℕ) (k j : ℕ) → after next (suc k) j ≡ next (after next k j)
unfolding after
after_last next zero j = refl
after_last next (suc k) j = after_last next k (next j)

-- Two chains make one.
pub join : {next : ℕ → ℕ} {a b c : ℕ} → Leads next a b → Leads next b c → Leads next a c
join {next} {a} c d =
    record {
      waits = c.waits + d.waits;
      there = after_add next c.waits d.waits a ∙ ap (after next d.waits) c.there ∙ d.there;
    }

-- A chain with one wait more at its end.
pub onward : {next : ℕ → ℕ} {m j i : ℕ} → Leads next m j → next j ≡ i → Leads next m i
onward {next} {m} c e = record { waits = suc c.waits; there = after_last next c.waits m ∙ ap next c.there ∙ e }

-- A chain has no wait, or a last one.
pub unsplit : {next : ℕ → ℕ} {m i : ℕ} → Leads next m i → (m ≡ i) ⊎ ((j : ℕ) × Leads next m j × (next j ≡ i))
unfolding after
unsplit {next} {m} {i} c = go c.waits c.there
  where
    go : (k : ℕ) → after next k m ≡ i → (m ≡ i) ⊎ ((j : ℕ) × Leads next m j × (next j ≡ i))
    go zero e = inl e
    go (suc k) e = inr (after next k m, record { waits = k; there = refl }, sym (after_last next k m) ∙ e)

-- k + d waits, of which the first k lead to j.
skip : (next : ℕ → ℕ) (k e i : ℕ) → k ≤ e → after next e i ≡ after next (e - k) (after next k i)
skip next k e i h = ap (λ (m : ℕ). after next m i) (sym (add_sub h)) ∙ after_add next k (e - k) i

-- ---- no ring: each chain ends

module _ {next : ℕ → ℕ} where
  around : {i : ℕ} (k : ℕ) → 0 < k → after next k i ≡ i → Leads next (next i) i
  unfolding after
  around zero l e = absurd (not-suc-le-zero l)
  around (suc k) l e = record { waits = k; there = e }

  -- A chain passes no task twice.
  pub no_twice : {n : ℕ} → NoRing n next → (j a b : ℕ) → a < b → after next a j < n → after next a j ≢ after next b j
  no_twice free j a b l h e = free (after next a j) h (around (b - a) (omega arith) (sym (skip next a b j (omega arith)) ∙ sym e))

  -- Round a ring there are chains of any length.
  round : {i : ℕ} → Leads next (next i) i → (k : ℕ) → (e : ℕ) × (k ≤ e) × (after next e i ≡ i)
  unfolding after
  round {i} c zero = (0, omega arith, refl)
  round {i} c (suc k) =
      let (e, h, q) = round c k in
      (e + suc c.waits, omega arith, after_add next e (suc c.waits) i ∙ ap (after next (suc c.waits)) q ∙ c.there)

module _ {n : ℕ} {next : ℕ → ℕ} (ends : Ends n next) where
  -- Where there is no ring, n waits lead from nowhere to a task.
  pub runs_out : NoRing n next → (j : ℕ) → n ≤ after next n j
  runs_out free j =
      ⊎_elim
      (λ l. let (a, h, e) = short ends l (record { waits = n; there = refl }) in absurd (no_twice free j a n h (rw e l) e))
      (λ out. out)
      (lt_or_le (after next n j) n)

  -- Once out of the tasks, a chain stays out.
  pub out_later : (k e j : ℕ) → k ≤ e → n ≤ after next k j → n ≤ after next e j
  out_later k e j h out = rw (skip next k e j h) (stays_out ends (e - k) out)

  -- Where k waits lead from no task to a task, there is no ring.
  pub outs_ringless : (k : ℕ) → ((j : ℕ) → j < n → n ≤ after next k j) → NoRing n next
  outs_ringless k outs i l c = let (e, h, q) = round c k in omega (arith, out_later k e i h (outs i l), q)

-- ---- the test

module _ (n : ℕ) (next : ℕ → ℕ) (k : ℕ) where
  pub ringless-sound : (m : ℕ) → ringless n next k m ≡ true → (j : ℕ) → j < m → n ≤ after next k j
  unfolding ringless
  ringless-sound zero e j l = absurd (not-suc-le-zero l)
  ringless-sound (suc m) e j l = go (ringless-sound m) (ltb (after next k m) n) refl e (eq-or-lt_of_le (le_of_suc-le-suc l))
    where
      go : (ringless n next k m ≡ true → (j : ℕ) → j < m → n ≤ after next k j) → (b : Bool) → ltb (after next k m) n ≡ b → cond b false (ringless n next k m) ≡ true
          → (j ≡ m) ⊎ (j < m) → n ≤ after next k j
      go rest true q h s = absurd (false≢true h)
      go rest false q h (inl s) = rw s (ltb-false (after next k m) n q)
      go rest false q h (inr s) = rest h j s

  pub ringless_complete : (m : ℕ) → ((j : ℕ) → j < m → n ≤ after next k j) → ringless n next k m ≡ true
  unfolding ringless
  ringless_complete zero outs = refl
  ringless_complete (suc m) outs = rw (le-ltb (after next k m) n (outs m (omega arith))) (ringless_complete m (λ j l. outs j (omega arith)))

module _ {n : ℕ} {next : ℕ → ℕ} (ends : Ends n next) where
  -- The test of k waits says that there is no ring exactly where there is none, if without a ring each chain ends within k waits.
  pub ringless-within : (k : ℕ) → (NoRing n next → (j : ℕ) → n ≤ after next k j) → (ringless n next k n ≡ true) ↔ NoRing n next
  ringless-within k outs = (λ e. outs_ringless ends k (ringless-sound n next k n e), λ free. ringless_complete n next k n (λ j l. outs free j))

  pub ringless_exact : (ringless n next n n ≡ true) ↔ NoRing n next
  ringless_exact = ringless-within n (runs_out ends)

-- ---- chains are short

-- Each wait for a task is for a mutex, one of c, that the task holds.
abbrev pub Mutexes : (c n : ℕ) (next holder waits : ℕ → ℕ) → Type 0
Mutexes c n next holder waits = (j : ℕ) → j < n → next j < n → (waits j < c) × (next j ≡ holder (waits j))

module _ {n : ℕ} {next : ℕ → ℕ} (ends : Ends n next) where
  -- With c mutexes a chain has c waits at most, between c + 1 tasks: the waits are for different mutexes.
  pub chain-short : {c : ℕ} (holder : ℕ → ℕ) {waits : ℕ → ℕ} → Mutexes c n next holder waits → NoRing n next → (j : ℕ) → n ≤ after next (suc c) j
  chain-short {c} holder {waits} held free j = ⊎_elim (λ l. absurd (long l)) (λ out. out) (lt_or_le (after next (suc c) j) n)
    where
      long : after next (suc c) j < n → ⊥
      long l = twice (pigeon c (λ a. waits (after next a j)) (λ a h. (wait a h).0))
        where
          task : (a : ℕ) → a ≤ suc c → after next a j < n
          task a h = inside ends (suc c) a j refl l h

          wait : (a : ℕ) → a ≤ c → (waits (after next a j) < c) × (next (after next a j) ≡ holder (waits (after next a j)))
          wait a h = held (after next a j) (task a (omega arith)) (rw (← after_last next a j) (task (suc a) (omega arith)))

          twice : Twice (λ a. waits (after next a j)) c → ⊥
          twice (a, b, u, h, e) =
              no_twice free j (suc a) (suc b) (omega arith) (task (suc a) (omega arith))
              (after_last next a j ∙ (wait a (omega arith)).1 ∙ ap holder e ∙ sym (wait b h).1 ∙ sym (after_last next b j))

  -- Where the chain from j ends within k waits, `leads` of k waits is as good as any.
  pub leads-within : (k : ℕ) {j i : ℕ} → i < n → n ≤ after next k j → (leads n next k j i ≡ true) ↔ Leads next j i
  leads-within k {j} {i} l out = (
    λ e. let (a, m, q) = leads-sound n next i k j e in record { waits = a; there = q },
    λ c. leads_complete ends l k j (c.waits, ⊎_elim (λ m. m) (λ h. absurd (omega (arith, out_later ends k c.waits j h out, c.there))) (lt_or_le c.waits k), c.there),
  )

-- ---- a new wait

module _ {n : ℕ} {next next' : ℕ → ℕ} {x h : ℕ} (ends : Ends n next) (ends' : Ends n next') (l : x < n) (none : n ≤ next x) (is : next' x ≡ h)
    (others : (m : ℕ) → m ≢ x → next' m ≡ next m) where
  -- The new wait makes no chain to x, and breaks none.
  to_old : (m : ℕ) → Leads next' m x → Leads next m x
  to_old = carry (λ m c. go m c (ℕ_discrete m x))
    where
      go : (m : ℕ) → Leads next (next' m) x → Dec (m ≡ x) → Leads next m x
      go m c (yes e) = rw e here
      go m c (no d) = more (rw (others m d) at c)

  to_new : (m : ℕ) → Leads next m x → Leads next' m x
  to_new = carry (λ m c. go m c (ℕ_discrete m x))
    where
      go : (m : ℕ) → Leads next' (next m) x → Dec (m ≡ x) → Leads next' m x
      go m c (yes e) = rw e here
      go m c (no d) = more (rw (others m d) c)

  -- A chain is one of before, or leads to x and on from h.
  through : {i : ℕ} (k m : ℕ) → after next' k m ≡ i → Leads next m i ⊎ (Leads next' m x × Leads next' h i)
  unfolding after
  through zero m e = inl (record { waits = 0; there = e })
  through {i} (suc k) m e = go (through k (next' m) e) (ℕ_discrete m x)
    where
      go : Leads next (next' m) i ⊎ (Leads next' (next' m) x × Leads next' h i) → Dec (m ≡ x) → Leads next m i ⊎ (Leads next' m x × Leads next' h i)
      go rest (yes q) = inr (rw q here, record { waits = k; there = ap (after next' k) (sym is ∙ ap next' (sym q)) ∙ e })
      go (inl c) (no d) = inl (more (rw (others m d) at c))
      go (inr s) (no d) = inr (more s.0, s.1)

  -- Request eight: the wait of x for h closes a ring exactly if a chain leads from h to x.
  pub closes : NoRing n next → NoRing n next' ↔ (¬ Leads next h x)
  closes free = (λ free' c. free' x l (rw is (to_new h c)), λ apart i k c. go apart i k c (ℕ_discrete i x))
    where
      go : ¬ Leads next h x → (i : ℕ) → i < n → Leads next' (next' i) i → Dec (i ≡ x) → ⊥
      go apart i k c (yes e) = apart (to_old h (rw (e, is) at c))
      go apart i k c (no d) =
          ⊎_elim
          (λ b. free i k (rw (others i d) at b))
          (λ s. apart (to_old h (join s.1 (more s.0))))
          (through c.waits (next' i) c.there)

  -- The same by the test, which may stop where the chain from h ends.
  pub closes-within : (k : ℕ) → n ≤ after next k h → NoRing n next → NoRing n next' ↔ (leads n next k h x ≡ false)
  closes-within k out free = (
    λ free'. go (leads n next k h x) refl ((closes free).0 free'),
    λ e. (closes free).1 (λ c. true≢false (sym ((leads-within ends k l out).1 c) ∙ e)),
  )
    where
      go : (b : Bool) → leads n next k h x ≡ b → ¬ Leads next h x → b ≡ false
      go true e apart = absurd (apart ((leads-within ends k l out).0 e))
      go false e apart = refl

  pub closes-test : NoRing n next → NoRing n next' ↔ (leads n next n h x ≡ false)
  closes-test free = closes-within n (runs_out ends free h) free

-- ---- waits that end, and a mutex handed on

-- Waits that end close no ring.
pub fewer-ringless : {n : ℕ} {next next' : ℕ → ℕ} → Ends n next → ((m : ℕ) → (next' m ≡ next m) ⊎ (n ≤ next' m)) → NoRing n next → NoRing n next'
fewer-ringless {n} {next} {next'} ends waits free i l c =
    let old : Leads next (next' i) i = carry (λ m. back m (waits m)) (next' i) c in
    ⊎_elim (λ e. free i l (rw e at old)) (λ out. out_not ends l out old) (waits i)
  where
    back : (m : ℕ) → (next' m ≡ next m) ⊎ (n ≤ next' m) → Leads next (next' m) i → Leads next m i
    back m (inl e) b = more (rw e at b)
    back m (inr out) b = absurd (out_not ends l out b)

-- Nor does a mutex that goes from o, a task or none, to its waiter w: w waits for none, and others that waited for o wait for w.
pub handed-ringless : {n : ℕ} {next next' : ℕ → ℕ} {o w : ℕ} → Ends n next → Ends n next' → next w ≡ o → n ≤ next' w
    → ((m : ℕ) → m ≢ w → (next' m ≡ next m) ⊎ ((next m ≡ o) × (next' m ≡ w)))
    → NoRing n next → NoRing n next'
handed-ringless {n} {next} {next'} {o} {w} ends ends' was none others free i l c = go (ℕ_discrete i w)
  where
    -- A chain that goes on behind w went on behind o, and so did one from each other waiter.
    step : i ≢ w → (m : ℕ) → Dec (m ≡ w) → Leads next (next' m) i → Leads next (next m) i
    step d m (yes e) b = absurd (out_not ends l (rw e none) b)
    step d m (no q) b =
        ⊎_elim
        (λ e. rw e at b)
        (λ s. rw (s.0, ← was) (⊎_elim (λ e. absurd (d (sym e))) (λ on. on) (split (rw s.1 at b))))
        (others m q)

    go : Dec (i ≡ w) → ⊥
    go (yes e) = out_not ends' l (rw e none) c
    go (no d) = free i l (step d i (no d) (carry (λ m b. more (step d m (ℕ_discrete m w) b)) (next' i) c))
