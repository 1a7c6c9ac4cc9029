-- What is computed in `Chain` is what is meant there, for chains of any length.
use Rattle.std.specs.Prelude.{◌≡◌, ◌⊎◌, ◌≢◌, ◌↔◌, Bool, cond, eqb, ltb}
use Rattle.std.proofs.Math.Path.{refl, sym}
use Rattle.std.proofs.Common.{ap, ◌∙◌, ⊎_elim, true≢false, not-suc-le-zero, zero-add, suc-add, eq-or-lt_of_le, le_of_suc-le-suc, eqb-true, eq-eqb, lt-ltb}
use Rattle.std.proofs.Math.Logic.{inl, inr}
use Rattle.std.proofs.Math.Bool.{true, false}
use Rattle.std.proofs.lemmas.Bool.{false≢true, eqb-false}
use Prim.Native.Nat.{ℕ, zero, suc, ◌+◌, ◌-◌, ◌≤◌, ◌<◌, min}
use Rattle.std.proofs.Math.Decide.{ℕ_discrete, dec_lt}
use native.Mathlib.Omega.{arith}
use Rattle.rules.specs.Chain.{after, Leads, Ends, Fresh, leads, smallest, fresh}

-- Of two numbers the first is less than the second, or the second is at most the first.
pub lt_or_le : (a b : ℕ) → (a < b) ⊎ (b ≤ a)
lt_or_le a b = go (dec_lt a b)
  where
    go : Dec (a < b) → (a < b) ⊎ (b ≤ a)
    go (yes l) = inl l
    go (no l) = inr (omega arith)

pub add_sub : {a k : ℕ} → a ≤ k → a + (k - a) ≡ k
add_sub h = omega arith

-- ---- the pigeonhole

-- Some a below m has g a ≡ v.
abbrev Has : (ℕ → ℕ) → ℕ → ℕ → Type 0
Has g v m = (a : ℕ) × (a < m) × (g a ≡ v)

-- No a below m has g a ≡ v.
abbrev Lacks : (ℕ → ℕ) → ℕ → ℕ → Type 0
Lacks g v m = (a : ℕ) → a < m → g a ≢ v

find : (g : ℕ → ℕ) (v m : ℕ) → Has g v m ⊎ Lacks g v m
find g v zero = inr (λ a l. absurd (not-suc-le-zero l))
find g v (suc m) = ⊎_elim (λ s. inl (s.0, omega arith, s.2)) (λ none. last none (ℕ_discrete (g m) v)) (find g v m)
  where
    last : Lacks g v m → Dec (g m ≡ v) → Has g v (suc m) ⊎ Lacks g v (suc m)
    last none (yes e) = inl (m, omega arith, e)
    last none (no ne) = inr (λ a l e. ⊎_elim (λ q. ne (rw (← q) e)) (λ l'. none a l' e) (eq-or-lt_of_le (le_of_suc-le-suc l)))

-- g, with v in place of n
abbrev patch : (ℕ → ℕ) → ℕ → ℕ → ℕ → ℕ
patch g n v k = cond (eqb (g k) n) v (g k)

abbrev Patched : (ℕ → ℕ) → ℕ → ℕ → ℕ → Type 0
Patched g n v k = ((g k ≡ n) × (patch g n v k ≡ v)) ⊎ ((g k ≢ n) × (patch g n v k ≡ g k))

patched : (g : ℕ → ℕ) (n v k : ℕ) → Patched g n v k
patched g n v k = go (eqb (g k) n) refl
  where
    go : (b : Bool) → eqb (g k) n ≡ b → Patched g n v k
    go true e = inl (eqb-true _ _ e, rw e)
    go false e = inr (eqb-false _ _ e, rw e)

-- Two of the numbers g 0 to g n are equal.
abbrev pub Twice : (ℕ → ℕ) → ℕ → Type 0
Twice g n = (a : ℕ) × (b : ℕ) × (a < b) × (b ≤ n) × (g a ≡ g b)

-- They are, if each is below n: where none equals the last, the last takes the place of n - 1 among the others.
pub pigeon : (n : ℕ) (g : ℕ → ℕ) → ((k : ℕ) → k ≤ n → g k < n) → Twice g n
pigeon zero g small = absurd (not-suc-le-zero (small 0 (omega arith)))
pigeon (suc n) g small = ⊎_elim (λ s. (s.0, suc n, s.1, omega arith, s.2)) (λ none. back none (pigeon n (patch g n v) (below none))) (find g v (suc n))
  where
    v : ℕ
    v = g (suc n)

    below : Lacks g v (suc n) → (k : ℕ) → k ≤ n → patch g n v k < n
    below none k l =
        ⊎_elim
        (λ s. let d : g (suc n) ≢ n = λ e. none k (omega arith) (s.0 ∙ sym e) in omega (arith, s.1, small (suc n) (omega arith)))
        (λ s. omega (arith, s.0, s.1, small k (omega arith)))
        (patched g n v k)

    same : Lacks g v (suc n) → (a b : ℕ) → a ≤ n → b ≤ n → patch g n v a ≡ patch g n v b → Patched g n v a → Patched g n v b → g a ≡ g b
    same none a b l m e (inl s) (inl t) = s.0 ∙ sym t.0
    same none a b l m e (inl s) (inr t) = absurd (none b (omega arith) (sym t.1 ∙ sym e ∙ s.1))
    same none a b l m e (inr s) (inl t) = absurd (none a (omega arith) (sym s.1 ∙ e ∙ t.1))
    same none a b l m e (inr s) (inr t) = sym s.1 ∙ e ∙ t.1

    back : Lacks g v (suc n) → Twice (patch g n v) n → Twice g (suc n)
    back none (a, b, l, m, e) = (a, b, l, omega arith, same none a b (omega arith) m e (patched g n v a) (patched g n v b))

-- ---- chains

-- The chain of no wait leads from i to itself.
pub here : {next : ℕ → ℕ} {i : ℕ} → Leads next i i
unfolding after
here = record { waits = 0; there = refl }

-- A chain that leads on from `next j` leads from j.
pub more : {next : ℕ → ℕ} {j i : ℕ} → Leads next (next j) i → Leads next j i
unfolding after
more c = record { waits = suc c.waits; there = c.there }

-- A chain has no wait, or a first one.
pub split : {next : ℕ → ℕ} {j i : ℕ} → Leads next j i → (j ≡ i) ⊎ Leads next (next j) i
unfolding after
split {next} {j} {i} c = go c.waits c.there
  where
    go : (k : ℕ) → after next k j ≡ i → (j ≡ i) ⊎ Leads next (next j) i
    go zero e = inl e
    go (suc k) e = inr (record { waits = k; there = e })

pub after_add : (next : ℕ → ℕ) (a b j : ℕ) → after next (a + b) j ≡ after next b (after next a j)
unfolding after
after_add next zero b j = rw zero-add
after_add next (suc a) b j = rw suc-add (after_add next a b (next j))

-- A chain of fewer than k waits leads from j to i.
abbrev pub Within : ℕ → (ℕ → ℕ) → ℕ → ℕ → Type 0
Within k next j i = (a : ℕ) × (a < k) × (after next a j ≡ i)

module _ {n : ℕ} {next : ℕ → ℕ} (ends : Ends n next) where
  -- From what is no task no chain comes back to a task.
  pub stays_out : (k : ℕ) {j : ℕ} → n ≤ j → n ≤ after next k j
  unfolding after
  stays_out zero out = out
  stays_out (suc k) out = stays_out k (ends _ out)

  -- Where a chain leads to a task, all on the way are tasks.
  pub inside : {i : ℕ} (k a j : ℕ) → after next k j ≡ i → i < n → a ≤ k → after next a j < n
  inside k a j e l h =
      ⊎_elim
      (λ y. y)
      (λ out. omega (arith, e, stays_out (k - a) out, ap (λ (m : ℕ). after next m j) (add_sub h), after_add next a (k - a) j))
      (lt_or_le (after next a j) n)

  -- A chain that passes a task twice can leave out what lies between.
  cut : {i : ℕ} (j k : ℕ) → n ≤ k → after next k j ≡ i → Twice (λ a. after next a j) n → Within k next j i
  cut j k h e (a, b, l, m, q) = (
    a + (k - b),
    omega arith,
    after_add next a (k - b) j ∙ ap (after next (k - b)) q ∙ sym (after_add next b (k - b) j) ∙ ap (λ (m : ℕ). after next m j) (add_sub (omega arith)) ∙ e,
  )

  -- A chain of any length that leads to a task can be shortened to fewer than n waits.
  pub short : {j i : ℕ} → i < n → Leads next j i → Within n next j i
  short {j} {i} l c = go c.waits c.waits (omega arith) c.there
    where
      go : (m k : ℕ) → k ≤ m → after next k j ≡ i → Within n next j i
      go zero k h e = ⊎_elim (λ y. (k, y, e)) (λ out. absurd (omega arith)) (lt_or_le k n)
      go (suc m) k h e =
          ⊎_elim
          (λ y. (k, y, e))
          (λ out. let (a, u, q) = cut j k out e (pigeon n (λ a. after next a j) (λ a u. inside k a j e l (omega arith))) in go m a (omega arith) q)
          (lt_or_le k n)

-- ---- `leads`

-- Where `leads` says so, a chain of fewer than k waits leads from j to i.
pub leads-sound : (n : ℕ) (next : ℕ → ℕ) (i k j : ℕ) → leads n next k j i ≡ true → Within k next j i
unfolding leads after
leads-sound n next i zero j e = absurd (false≢true e)
leads-sound n next i (suc k) j e = go (leads-sound n next i k (next j)) (eqb j i) refl (ltb j n) e
  where
    go : (leads n next k (next j) i ≡ true → Within k next (next j) i) → (b : Bool) → eqb j i ≡ b → (c : Bool) → cond b true (cond c (leads n next k (next j) i) false) ≡ true
        → Within (suc k) next j i
    go rest true q c h = (0, omega arith, eqb-true _ _ q)
    go rest false q true h = let (a, l, e) = rest h in (suc a, omega arith, e)
    go rest false q false h = absurd (false≢true h)

or_else : (b : Bool) {c : Bool} → c ≡ true → cond b true c ≡ true
or_else true e = refl
or_else false e = e

module _ {n : ℕ} {next : ℕ → ℕ} (ends : Ends n next) {i : ℕ} (l : i < n) where
  -- Where a chain of fewer than k waits leads from j to the task i, `leads` says so.
  pub leads_complete : (k j : ℕ) → Within k next j i → leads n next k j i ≡ true
  unfolding leads after
  leads_complete zero j (a, m, e) = absurd (not-suc-le-zero m)
  leads_complete (suc k) j (zero, m, e) = rw (eq-eqb j i e)
  leads_complete (suc k) j (suc a, m, e) =
      or_else (eqb j i) (rw (lt-ltb j n (inside ends (suc a) 0 j e l (omega arith))) (leads_complete k (next j) (a, omega arith, e)))

  -- `leads` of n waits is true exactly where a chain of any length leads from j to the task i.
  pub leads_exact : (j : ℕ) → (leads n next n j i ≡ true) ↔ Leads next j i
  leads_exact j = (λ e. let (a, m, q) = leads-sound n next i n j e in record { waits = a; there = q }, λ c. leads_complete n j (short ends l c))

-- ---- the smallest

-- One task more: it passes the test and counts, or it does not count.
abbrev pub Step : (ℕ → Bool) → (ℕ → ℕ) → ℕ → ℕ → Type 0
Step test base m k =
    ((test k ≡ true) × (smallest test base (suc k) m ≡ min (base k) (smallest test base k m))) ⊎ ((test k ≡ false) × (smallest test base (suc k) m ≡ smallest test base k m))

-- The smallest of the first k tasks is m, or the base of one of them that passes the test.
abbrev pub Among : (ℕ → Bool) → (ℕ → ℕ) → ℕ → ℕ → Type 0
Among test base m k = (smallest test base k m ≡ m) ⊎ ((j : ℕ) × (j < k) × (test j ≡ true) × (base j ≡ smallest test base k m))

module _ (test : ℕ → Bool) (base : ℕ → ℕ) (m : ℕ) where
  pub smallest-step : (k : ℕ) → Step test base m k
  unfolding smallest
  smallest-step k = go (test k) refl
    where
      go : (b : Bool) → test k ≡ b → Step test base m k
      go true e = inl (e, rw e)
      go false e = inr (e, rw e)

  pub smallest-least : (k j : ℕ) → j < k → test j ≡ true → smallest test base k m ≤ base j
  smallest-least zero j l t = absurd (not-suc-le-zero l)
  smallest-least (suc k) j l t = go (smallest-step k) (eq-or-lt_of_le (le_of_suc-le-suc l)) (λ h. smallest-least k j h t)
    where
      go : Step test base m k → (j ≡ k) ⊎ (j < k) → (j < k → smallest test base k m ≤ base j) → smallest test base (suc k) m ≤ base j
      go (inl s) (inl q) rest = omega (arith, s.1, ap base q)
      go (inr s) (inl q) rest = absurd (true≢false (sym t ∙ ap test q ∙ s.0))
      go (inl s) (inr h) rest = omega (arith, s.1, rest h)
      go (inr s) (inr h) rest = omega (arith, s.1, rest h)

  pub smallest-among : (k : ℕ) → Among test base m k
  unfolding smallest
  smallest-among zero = inl refl
  smallest-among (suc k) = go (smallest-among k) (smallest-step k)
    where
      keep : Among test base m k → smallest test base (suc k) m ≡ smallest test base k m → Among test base m (suc k)
      keep (inl a) e = inl (e ∙ a)
      keep (inr (j, l, t, a)) e = inr (j, omega arith, t, a ∙ sym e)

      go : Among test base m k → Step test base m k → Among test base m (suc k)
      go h (inl s) = ⊎_elim (λ l. keep h (omega (arith, s.1))) (λ l. inr (k, omega arith, s.0, omega (arith, s.1))) (lt_or_le (smallest test base k m) (base k))
      go h (inr s) = keep h s.1

-- ---- what is computed is what is meant

-- No two numbers are the smallest.
pub fresh_one : {n : ℕ} {next base : ℕ → ℕ} {i p q : ℕ} → Fresh n next base i p → Fresh n next base i q → p ≡ q
fresh_one a b =
    let (j, l, c, e) = a.among in
    let (k, m, d, f) = b.among in
    omega (arith, a.least k m d, b.least j l c)

-- The number computed for a task is the smallest of those that are meant.
pub fresh_is : {n : ℕ} {next : ℕ → ℕ} (base : ℕ → ℕ) {i : ℕ} → Ends n next → i < n → Fresh n next base i (fresh n next base i)
unfolding fresh
fresh_is {n} {next} base {i} ends l =
    record {
      least = λ j k c. smallest-least test base (base i) n j k ((leads_exact ends l j).1 c);
      among = ⊎_elim (λ e. (i, l, here, sym e)) (λ a. (a.0, a.1, (leads_exact ends l a.0).0 a.2, a.3)) (smallest-among test base (base i) n);
    }
  where
    test : ℕ → Bool
    test j = leads n next n j i
