-- The cheap walk: without a ring it does what the walk by numbers worked out afresh does, and leaves each task right.
use Rattle.std.specs.Prelude.{◌≡◌, ◌≢◌, Bool, true, false, cond, eqb, ltb}
use Rattle.std.proofs.Math.Path.{refl, ap}
use Rattle.std.proofs.Common.{sym, ◌∙◌, le_of_suc-le-suc, not-suc-le-zero, arith}
use Rattle.std.proofs.Math.Logic.{⊎_elim}
use Prim.Native.Nat.{ℕ, zero, suc, ◌≤◌, ◌<◌}
use Rattle.std.proofs.Math.Decide.{ℕ_discrete}
use borrow.Author.Tests.{eqb-true, eqb-false, ltb-true, ltb-false, lt-ltb, le-ltb}
use Rattle.rules.specs.Chain.{after, Leads, Ends, Fresh, fresh}
use Rattle.rules.specs.Walk.{walk_on}
use Rattle.rules.specs.Afresh.{lt_or_le, here, split, fresh_is, fresh_one}
use Rattle.laws.specs.chains.Walk.{walk_on_past}
use Rattle.laws.specs.local.Local.{NoRing, Right, Least, Local, AllBut, cheap_on}
use Rattle.laws.specs.local.Ring.{onward}
use Rattle.laws.specs.local.Least.{least_same, least-fresh, local_at, local_right}

-- What holds in both branches, each with its test, holds.
branch {ℓ} : {S : Type 0} (P : S → Type ℓ) (b : Bool) {x y : S} → (b ≡ true → P x) → (b ≡ false → P y) → P (cond b x y)
branch P true f g = f refl
branch P false f g = g refl

-- ---- one turn, over plain functions

module _ {n : ℕ} {next base work : ℕ → ℕ} {s p : ℕ} (ends : Ends n next) (free : NoRing n next) (rest : AllBut n next base work s) (l : s < n)
    (small : Least n next base work s p) where
  -- The waiters of s are right, and so is the number p of s.
  pub turn_fresh : Fresh n next base s p
  turn_fresh = least-fresh ends l (λ j k e. local_at ends free j k (λ m u c. rest m u (λ q. ring j e (rw q at c)))) small
    where
      ring : (j : ℕ) → next j ≡ s → Leads next s j → ⊥
      ring j e c = free s l (⊎_elim (λ q. let own : next s ≡ s = ap next q ∙ e in rw own here) (λ on. onward on e) (split c))

  -- With p stored only the task for which s waits can be wrong.
  pub turn_rest : {work' : ℕ → ℕ} → work' s ≡ p → ((j : ℕ) → j ≢ s → work' j ≡ work j) → AllBut n next base work' (next s)
  turn_rest {work'} there others i k d = go (ℕ_discrete i s)
    where
      kept : {q : ℕ} → next s ≢ i → Least n next base work i q → Least n next base work' i q
      kept apart = least_same refl (λ j u e. (e, others j (λ q. apart (rw (← q) e)))) (λ j u e. (e, others j (λ q. apart (rw (← q) e))))

      go : Dec (i ≡ s) → Least n next base work' i (work' i)
      go (yes e) = rw (e, there) (rw e at (kept {q = p} (λ q. d (sym q)) (rw e small)))
      go (no m) = rw (others i m) (kept (λ q. d (sym q)) (rest i k m))

-- ---- the walk

-- `put` stores a working priority and changes no other, and no wait and no base. `Fit` is what it needs, as the right length.
pub record Store {S : Type 0} (n : ℕ) (next base work : S → ℕ → ℕ) (put : S → ℕ → ℕ → S) (Fit : S → Type 0) : Type 0 where
  pub nexts : (t : S) (s p : ℕ) → s < n → next (put t s p) ≡ next t
  pub bases : (t : S) (s p : ℕ) → s < n → base (put t s p) ≡ base t
  pub there : (t : S) (s p : ℕ) → s < n → Fit t → work (put t s p) s ≡ p
  pub others : (t : S) (s p : ℕ) → s < n → (j : ℕ) → j ≢ s → work (put t s p) j ≡ work t j
  pub idle : (t : S) (s : ℕ) → s < n → Fit t → put t s (work t s) ≡ t
  pub fits : (t : S) (s p : ℕ) → s < n → Fit t → Fit (put t s p)

-- The walk has come to s: there is no ring, and each task but s is right locally.
pub record Come {S : Type 0} (n : ℕ) (next base work : S → ℕ → ℕ) (Fit : S → Type 0) (t : S) (s : ℕ) : Type 0 where
  pub fit : Fit t
  pub ends : Ends n (next t)
  pub free : NoRing n (next t)
  pub rest : AllBut n (next t) (base t) (work t) s

-- `new` is the local number of each task to which the walk comes. `Inv` is what it takes to say so, at each turn.
pub record Turns {S : Type 0} (n : ℕ) (next base work new : S → ℕ → ℕ) (put : S → ℕ → ℕ → S) (Fit : S → Type 0) (Inv : S → ℕ → Type 0) : Type 0 where
  pub small : (t : S) (s : ℕ) → s < n → Come n next base work Fit t s → Inv t s → Least n (next t) (base t) (work t) s (new t s)
  pub keeps : (t : S) (s : ℕ) → s < n → Come n next base work Fit t s → Inv t s → new t s ≢ work t s → Inv (put t s (new t s)) (next t s)

-- The numbers worked out afresh.
abbrev pub afresh : {S : Type 0} (n : ℕ) (next base : S → ℕ → ℕ) → S → ℕ → ℕ
afresh n next base t i = fresh n (next t) (base t) i

-- Each task of the state is right.
abbrev pub RightIn : {S : Type 0} (n : ℕ) (next base work : S → ℕ → ℕ) → S → Type 0
RightIn n next base work t = Right n (next t) (base t) (work t)

module _ {S : Type 0} {n : ℕ} {next base work : S → ℕ → ℕ} {put : S → ℕ → ℕ → S} {Fit : S → Type 0} (store : Store n next base work put Fit) where
  -- Where all are right the walk changes nothing.
  pub walk-idle : (k s : ℕ) (t : S) → Fit t → Ends n (next t) → Right n (next t) (base t) (work t) → walk_on n next (afresh n next base) put k s t ≡ t
  unfolding walk_on
  walk-idle zero s t fit ends r = refl
  walk-idle (suc k) s t fit ends r = ⊎_elim (λ l. rw (lt-ltb s n l) (on (walk-idle k (next t s) t fit ends r) l)) (λ l. rw (le-ltb s n l)) (lt_or_le s n)
    where
      on : walk_on n next (afresh n next base) put k (next t s) t ≡ t → s < n → walk_on n next (afresh n next base) put k (next t s) (put t s (afresh n next base t s)) ≡ t
      on same l = ap (walk_on n next (afresh n next base) put k (next t s)) (ap (put t s) (fresh_one (fresh_is (base t) ends l) (r s l)) ∙ store.idle t s l fit) ∙ same

  -- A walk along a chain that ends within k waits is the same for more.
  pub walk_enough : (new : S → ℕ → ℕ) (k e s : ℕ) (t : S) → Ends n (next t) → n ≤ after (next t) k s → k ≤ e → walk_on n next new put e s t ≡ walk_on n next new put k s t
  unfolding walk_on after
  walk_enough new zero e s t ends out h = walk_on_past n next new put e s t out
  walk_enough new (suc k) zero s t ends out h = absurd (not-suc-le-zero h)
  walk_enough new (suc k) (suc e) s t ends out h =
      ⊎_elim
      (λ l. let same = store.nexts t s (new t s) l in rw (lt-ltb s n l) (walk_enough new k e (next t s) (put t s (new t s)) (rw same ends) (rw same out) (le_of_suc-le-suc h)))
      (λ l. rw (le-ltb s n l))
      (lt_or_le s n)

  module _ {new : S → ℕ → ℕ} {Inv : S → ℕ → Type 0} (turns : Turns n next base work new put Fit Inv) where
    -- The walk comes to the next task.
    come_next : (t : S) (s : ℕ) → s < n → Come n next base work Fit t s → Inv t s → Come n next base work Fit (put t s (new t s)) (next t s)
    come_next t s l c v =
        let same = store.nexts t s (new t s) l in
        record {
          fit = store.fits t s (new t s) l c.fit;
          ends = rw same c.ends;
          free = rw same c.free;
          rest = rw (same, store.bases t s (new t s) l) (turn_rest c.ends c.free c.rest l (turns.small t s l c v) (store.there t s (new t s) l c.fit) (store.others t s (new t s) l));
        }

    -- At a task that keeps its number all are right locally.
    come_still : (t : S) (s : ℕ) → s < n → Come n next base work Fit t s → Inv t s → new t s ≡ work t s → Local n (next t) (base t) (work t)
    come_still t s l c v e i k = go (ℕ_discrete i s)
      where
        go : Dec (i ≡ s) → Least n (next t) (base t) (work t) i (work t i)
        go (yes q) = rw (q, ← e) (turns.small t s l c v)
        go (no d) = c.rest i k d

    -- The cheap walk does what the walk does.
    pub cheap_walk : (k s : ℕ) (t : S) → Come n next base work Fit t s → Inv t s → cheap_on n next work new put k s t ≡ walk_on n next (afresh n next base) put k s t
    unfolding cheap_on walk_on
    cheap_walk zero s t c v = refl
    cheap_walk (suc k) s t c v =
        ⊎_elim
        (λ l. rw (lt-ltb s n l) (go l (λ d. cheap_walk k (next t s) (put t s (new t s)) (come_next t s l c v) (turns.keeps t s l c v d)) (eqb (new t s) (work t s)) refl))
        (λ l. rw (le-ltb s n l))
        (lt_or_le s n)
      where
        same : s < n → new t s ≡ afresh n next base t s
        same l = fresh_one (turn_fresh c.ends c.free c.rest l (turns.small t s l c v)) (fresh_is (base t) c.ends l)

        go : s < n
            → (new t s ≢ work t s → cheap_on n next work new put k (next t s) (put t s (new t s)) ≡ walk_on n next (afresh n next base) put k (next t s) (put t s (new t s)))
            → (b : Bool) → eqb (new t s) (work t s) ≡ b
            → cond b t (cheap_on n next work new put k (next t s) (put t s (new t s))) ≡ walk_on n next (afresh n next base) put k (next t s) (put t s (afresh n next base t s))
        go l on true e =
            let still = eqb-true (new t s) (work t s) e in
            sym
            (ap (walk_on n next (afresh n next base) put k (next t s)) (ap (put t s) (sym (same l) ∙ still) ∙ store.idle t s l c.fit)
            ∙ walk-idle k (next t s) t c.fit c.ends (local_right c.ends c.free (come_still t s l c v still)))
        go l on false e = on (eqb-false (new t s) (work t s) e) ∙ ap (λ (p : ℕ). walk_on n next (afresh n next base) put k (next t s) (put t s p)) (same l)

    -- And it leaves each task right, if it is long enough for the chain.
    pub cheap_right : (k s : ℕ) (t : S) → Come n next base work Fit t s → Inv t s → n ≤ after (next t) k s → RightIn n next base work (cheap_on n next work new put k s t)
    unfolding cheap_on after
    cheap_right zero s t c v out = local_right c.ends c.free (λ i l. c.rest i l (λ e. omega arith))
    cheap_right (suc k) s t c v out =
        branch (RightIn n next base work) (ltb s n)
        (λ e.
        let l = ltb-true s n e in
        branch (RightIn n next base work) (eqb (new t s) (work t s))
        (λ q. local_right c.ends c.free (come_still t s l c v (eqb-true (new t s) (work t s) q)))
        (λ q. cheap_right k (next t s) (put t s (new t s)) (come_next t s l c v) (turns.keeps t s l c v (eqb-false (new t s) (work t s) q)) (rw (store.nexts t s (new t s) l) out)))
        (λ e. local_right c.ends c.free (λ i l. c.rest i l (λ q. omega (arith, ltb-false s n e))))
