-- The local rule: the numbers worked out afresh satisfy it, and without a ring no others do.
use Rattle.std.specs.Prelude.{◌≡◌, refl, ◌⊎◌, ◌≢◌, Bool, true, eqb}
use Rattle.std.proofs.Common.{sym, ap, ◌∙◌, inl, inr, le_antisymm, arith, eqb-true, eq-eqb}
use Rattle.std.proofs.Math.Logic.{⊎_elim}
use Prim.Native.Nat.{ℕ, zero, suc, ◌≤◌, ◌<◌, min}
use Rattle.std.proofs.Math.Nat.{le_trans}
use Rattle.std.proofs.Math.Decide.{ℕ_discrete}
use Rattle.rules.specs.Chain.{after, Leads, Ends, Fresh, smallest, fresh}
use Rattle.rules.specs.Afresh.{lt_or_le, here, Step, smallest-step, smallest-least, smallest-among, fresh_is, fresh_one}
use Rattle.laws.specs.chains.Change.{out_not}
use Rattle.laws.specs.local.Local.{NoRing, Right, Least, Local, local}
use Rattle.laws.specs.local.Ring.{runs_out, onward, unsplit}

-- ---- the smallest

smallest-own : (test : ℕ → Bool) (base : ℕ → ℕ) (m k : ℕ) → smallest test base k m ≤ m
unfolding smallest
smallest-own test base m zero = omega arith
smallest-own test base m (suc k) = go (smallest-own test base m k) (smallest-step test base m k)
  where
    go : smallest test base k m ≤ m → Step test base m k → smallest test base (suc k) m ≤ m
    go rest (inl s) = omega (arith, s.1, rest)
    go rest (inr s) = omega (arith, s.1, rest)

-- The smallest, over any c numbers, of which each stands for a waiter and each waiter is no more urgent than some.
pub smallest-waiters : {n : ℕ} {next base work : ℕ → ℕ} {i : ℕ} (c : ℕ) (test : ℕ → Bool) (part : ℕ → ℕ)
    → ((m : ℕ) → m < c → test m ≡ true → (j : ℕ) × (j < n) × (next j ≡ i) × (work j ≡ part m))
    → ((j : ℕ) → j < n → next j ≡ i → (m : ℕ) × (m < c) × (test m ≡ true) × (part m ≤ work j))
    → Least n next base work i (smallest test part c (base i))
smallest-waiters {n} {next} {base} {work} {i} c test part stands some =
    record {
      own = smallest-own test part (base i) c;
      waiters = λ j l e. let (m, k, t, h) = some j l e in le_trans (smallest-least test part (base i) c m k t) h;
      among = ⊎_elim (λ e. inl (sym e)) (λ s. let (j, l, e, q) = stands s.0 s.1 s.2 in inr (j, l, e, q ∙ s.3)) (smallest-among test part (base i) c);
    }

-- `local` computes what is meant.
pub local_is : (n : ℕ) (next base work : ℕ → ℕ) (i : ℕ) → Least n next base work i (local n next base work i)
unfolding local
local_is n next base work i =
    smallest-waiters n (λ j. eqb (next j) i) work (λ j l t. (j, l, eqb-true (next j) i t, refl)) (λ j l e. (j, l, eq-eqb (next j) i e, omega arith))

-- ---- one number

module _ {n : ℕ} {next base work : ℕ → ℕ} {i : ℕ} where
  least_le : {p q : ℕ} → Least n next base work i p → Least n next base work i q → p ≤ q
  least_le a b = ⊎_elim (λ e. omega (arith, a.own)) (λ s. omega (arith, a.waiters s.0 s.1 s.2, s.3)) b.among

  pub least_one : {p q : ℕ} → Least n next base work i p → Least n next base work i q → p ≡ q
  least_one a b = le_antisymm (least_le a b) (least_le b a)

-- The same base, the same waiters at the same numbers.
pub least_same : {n : ℕ} {next next' base base' work work' : ℕ → ℕ} {i p : ℕ} → base' i ≡ base i
    → ((j : ℕ) → j < n → next j ≡ i → (next' j ≡ i) × (work' j ≡ work j))
    → ((j : ℕ) → j < n → next' j ≡ i → (next j ≡ i) × (work' j ≡ work j))
    → Least n next base work i p → Least n next' base' work' i p
least_same b forth back a =
    record {
      own = rw b a.own;
      waiters = λ j l e. rw (back j l e).1 (a.waiters j l (back j l e).0);
      among = ⊎_elim (λ e. inl (b ∙ e)) (λ s. let (e, q) = forth s.0 s.1 s.2 in inr (s.0, s.1, e, q ∙ s.3)) a.among;
    }

pub local_same : {n : ℕ} {next base base' work work' : ℕ → ℕ} → ((i : ℕ) → base' i ≡ base i) → ((i : ℕ) → work' i ≡ work i) → Local n next base work → Local n next base' work'
local_same bases works h i l = rw (works i) (least_same (bases i) (λ j k e. (e, works j)) (λ j k e. (e, works j)) (h i l))

-- The waiter x is new, or works at a better number than it did.
pub least-lower : {n : ℕ} {next next' base work work' : ℕ → ℕ} {i q : ℕ} (x p : ℕ) → x < n → next' x ≡ i → work' x ≡ p → (next x ≡ i → p ≤ work x)
    → ((j : ℕ) → j ≢ x → (next' j ≡ next j) × (work' j ≡ work j))
    → Least n next base work i q → Least n next' base work' i (min q p)
least-lower {n} {next} {next'} {base} {work} {work'} {i} {q} x p l is at was others a =
    record {
      own = omega (arith, a.own);
      waiters = λ j k e. below j k e (ℕ_discrete j x);
      among = ⊎_elim (λ m. inr (x, l, is, omega arith)) (λ m. ⊎_elim (λ e. inl (omega arith)) (λ s. inr (old m s.0 s.1 s.2 s.3 (ℕ_discrete s.0 x))) a.among) (lt_or_le p q);
    }
  where
    below : (j : ℕ) → j < n → next' j ≡ i → Dec (j ≡ x) → min q p ≤ work' j
    below j k e (yes y) = omega (arith, at, ap work' y)
    below j k e (no d) = let (f, g) = others j d in omega (arith, a.waiters j k (sym f ∙ e), g)

    old : q ≤ p → (j : ℕ) → j < n → next j ≡ i → work j ≡ q → Dec (j ≡ x) → (j : ℕ) × (j < n) × (next' j ≡ i) × (work' j ≡ min q p)
    old m j k e w (yes y) = (x, l, is, omega (arith, at, was (ap next (sym y) ∙ e), ap work y))
    old m j k e w (no d) = let (f, g) = others j d in (j, k, f ∙ e, omega (arith, g))

-- ---- afresh and local

-- What is right is right locally; rings do no harm here.
pub right_local : {n : ℕ} {next base work : ℕ → ℕ} → Ends n next → Right n next base work → Local n next base work
right_local {n} {next} {base} {work} ends r i l =
    record {
      own = (r i l).least i l here;
      waiters = below;
      among = let (m, k, c, e) = (r i l).among in ⊎_elim (λ q. inl (ap base (sym q) ∙ e)) (λ s. inr (last m k e s.0 s.1 s.2)) (unsplit c);
    }
  where
    below : (j : ℕ) → j < n → next j ≡ i → work i ≤ work j
    below j k e = let (m, u, c, q) = (r j k).among in omega (arith, (r i l).least m u (onward c e))

    last : (m : ℕ) → m < n → base m ≡ work i → (j : ℕ) → Leads next m j → next j ≡ i → (j : ℕ) × (j < n) × (next j ≡ i) × (work j ≡ work i)
    last m k q j c e =
        let task : j < n = ⊎_elim (λ y. y) (λ out. absurd (omega (arith, ends j out))) (lt_or_le j n) in
        (j, task, e, le_antisymm (rw (← q) ((r j task).least m k c)) (below j task e))

-- Where the waiters of i are right, so is the smallest of them and of the base of i.
pub least-fresh : {n : ℕ} {next base work : ℕ → ℕ} {i p : ℕ} → Ends n next → i < n → ((j : ℕ) → j < n → next j ≡ i → Fresh n next base j (work j))
    → Least n next base work i p → Fresh n next base i p
least-fresh {n} {next} {base} {work} {i} {p} ends l r a =
    record {
      least = λ m k c. ⊎_elim (λ e. rw e a.own) (λ s. below m k s.0 s.1 s.2) (unsplit c);
      among = ⊎_elim (λ e. (i, l, here, e)) (λ s. let (m, k, c, e) = (r s.0 s.1 s.2).among in (m, k, onward c s.2, e ∙ s.3)) a.among;
    }
  where
    below : (m : ℕ) → m < n → (j : ℕ) → Leads next m j → next j ≡ i → p ≤ base m
    below m k j c e =
        let task : j < n = ⊎_elim (λ y. y) (λ out. absurd (omega (arith, ends j out))) (lt_or_le j n) in
        le_trans (a.waiters j task e) ((r j task e).least m k c)

module _ {n : ℕ} {next base work : ℕ → ℕ} (ends : Ends n next) (free : NoRing n next) where
  -- A task is right, if each from which a chain leads to it is right locally.
  pub local_at : (i : ℕ) → i < n → ((m : ℕ) → m < n → Leads next m i → Least n next base work m (work m)) → Fresh n next base i (work i)
  unfolding after
  local_at i l here-right =
      record {
        least = λ m k c. le_trans (down c.waits m k c.there) (here-right m k c).own;
        among = ⊎_elim (λ s. s) (λ s. absurd (omega (arith, runs_out ends free s.0, s.2))) (back n);
      }
    where
      down : (k m : ℕ) → m < n → after next k m ≡ i → work i ≤ work m
      down zero m u e = rw e (omega arith)
      down (suc k) m u e =
          let on : Leads next (next m) i = record { waits = k; there = e } in
          let task : next m < n = ⊎_elim (λ y. y) (λ out. absurd (out_not ends l out on)) (lt_or_le (next m) n) in
          le_trans (down k (next m) task e) ((here-right (next m) task on).waiters m u refl)

      -- Some task that leads to i has the number of i for its base, or k waits lead from one with that number to i.
      back : (k : ℕ) → ((m : ℕ) × (m < n) × Leads next m i × (base m ≡ work i)) ⊎ ((m : ℕ) × (m < n) × (after next k m ≡ i) × (work m ≡ work i))
      back zero = inr (i, l, refl, refl)
      back (suc k) = ⊎_elim inl step (back k)
        where
          step : (m : ℕ) × (m < n) × (after next k m ≡ i) × (work m ≡ work i)
              → ((m : ℕ) × (m < n) × Leads next m i × (base m ≡ work i)) ⊎ ((m : ℕ) × (m < n) × (after next (suc k) m ≡ i) × (work m ≡ work i))
          step (m, u, e, q) =
              let c : Leads next m i = record { waits = k; there = e } in
              ⊎_elim (λ b. inl (m, u, c, b ∙ q)) (λ s. inr (s.0, s.1, ap (after next k) s.2 ∙ e, s.3 ∙ q)) (here-right m u c).among

  -- Without a ring what is right locally is right.
  pub local_right : Local n next base work → Right n next base work
  local_right h i l = local_at i l (λ m k c. h m k)

  -- The number worked out afresh is the only one that satisfies the local rule everywhere.
  pub local_only : Local n next base work → (i : ℕ) → i < n → work i ≡ fresh n next base i
  local_only h i l = fresh_one (local_right h i l) (fresh_is base ends l)

-- And it does satisfy it.
pub fresh_right : {n : ℕ} {next : ℕ → ℕ} (base : ℕ → ℕ) → Ends n next → Right n next base (fresh n next base)
fresh_right base ends i l = fresh_is base ends l

pub fresh-local : {n : ℕ} {next : ℕ → ℕ} (base : ℕ → ℕ) → Ends n next → (i : ℕ) → i < n → fresh n next base i ≡ local n next base (fresh n next base) i
fresh-local {n} {next} base ends i l = least_one (right_local ends (fresh_right base ends) i l) (local_is n next base (fresh n next base) i)
