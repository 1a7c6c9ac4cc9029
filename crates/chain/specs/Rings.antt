-- Chains, one wait at a time: where one leads, and that each has an end.
use Rattle.std.specs.Prelude.{◌≡◌, ◌≢◌, Bool, true, false}
use Rattle.std.proofs.Math.Path.{refl}
use Prim.Native.Nat.{ℕ, zero, suc, ◌+◌, ◌-◌, ◌≤◌, ◌<◌}
use Rattle.std.proofs.Common.{add-one, sub-one, arith}
use borrow.Author.Tests.{eq-eqb, ne_eqb, lt-ltb, le-ltb}
use Rattle.rules.specs.Chain.{after, leads}
use Rattle.laws.specs.local.Local.{ringless}
use Rattle.laws.specs.local.Ring.{ringless-sound}

-- ---- where a chain leads

module _ (n : ℕ) (next : ℕ → ℕ) (i : ℕ) where
  pub leads_none : (k j : ℕ) → k ≡ 0 → leads n next k j i ≡ false
  unfolding leads
  leads_none k j e = rw e

  pub leads_here : (k j : ℕ) → k ≢ 0 → j ≡ i → leads n next k j i ≡ true
  unfolding leads
  leads_here zero j d e = absurd (d refl)
  leads_here (suc k) j d e = rw (eq-eqb j i e)

  pub leads_past : (k j : ℕ) → j ≢ i → n ≤ j → leads n next k j i ≡ false
  unfolding leads
  leads_past zero j d h = refl
  leads_past (suc k) j d h = rw (ne_eqb j i d, le-ltb j n h)

  pub leads_on : (k j : ℕ) → k ≢ 0 → j ≢ i → j < n → leads n next k j i ≡ leads n next (k - 1) (next j) i
  unfolding leads
  leads_on zero j z d h = absurd (z refl)
  leads_on (suc k) j z d h = rw (ne_eqb j i d, lt-ltb j n h, sub-one)

-- ---- the end of a chain

pub after_none : (next : ℕ → ℕ) (k j : ℕ) → k ≡ 0 → after next k j ≡ j
unfolding after
after_none next k j e = rw e

pub after_on : (next : ℕ → ℕ) (k j : ℕ) → k ≢ 0 → after next k j ≡ after next (k - 1) (next j)
unfolding after
after_on next zero j d = absurd (d refl)
after_on next (suc k) j d = rw sub-one

-- ---- no rings

module _ (n : ℕ) (next : ℕ → ℕ) (k : ℕ) where
  pub ringless_none : ringless n next k 0 ≡ true
  unfolding ringless
  ringless_none = refl

  pub ringless_next : (m : ℕ) → n ≤ after next k m → ringless n next k m ≡ true → ringless n next k (m + 1) ≡ true
  unfolding ringless
  ringless_next m out e = rw (add-one, le-ltb (after next k m) n out) e

  -- One chain that is too long is enough.
  pub ringless-fails : (m j : ℕ) → j < m → after next k j < n → ringless n next k m ≡ false
  ringless-fails m j l long = go (ringless n next k m) refl
    where
      go : (b : Bool) → ringless n next k m ≡ b → ringless n next k m ≡ false
      go true e = absurd (omega (arith, ringless-sound n next k m e j l))
      go false e = e
