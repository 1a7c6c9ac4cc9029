-- The laws of the walk: after a change, it makes each task work at the number worked out afresh.
use Rattle.std.specs.Prelude.{◌≡◌, ◌⊎◌, ◌≢◌, Bool, true, false}
use Rattle.std.proofs.Math.Path.{refl}
use Rattle.std.proofs.Common.{sym, subst, ◌∙◌, inl, inr, true≢false, not-suc-le-zero, arith, sub-one, lt-ltb, le-ltb}
use Rattle.std.proofs.Math.Logic.{⊎_elim}
use Prim.Native.Nat.{ℕ, zero, suc, ◌-◌, ◌≤◌, ◌<◌}
use Rattle.rules.specs.Chain.{after, Leads, Ends, leads, fresh}
use Rattle.rules.specs.Walk.{walk_on}
use Rattle.rules.specs.Afresh.{lt_or_le, Within, stays_out, leads-sound, leads_exact}

-- A change of waits and bases leaves its number to each task to which no chain leads from s.
abbrev pub Untouched : (n : ℕ) (next next' base base' : ℕ → ℕ) → ℕ → Type 0
Untouched n next next' base base' s = (j : ℕ) → j < n → ¬ Leads next' s j → fresh n next' base' j ≡ fresh n next base j

-- ---- the walk over a state

module _ {S : Type 0} (n : ℕ) (next new : S → ℕ → ℕ) (put : S → ℕ → ℕ → S) where
  -- A walk of no task changes nothing.
  pub walk_on_none : (k s : ℕ) (t : S) → k ≡ 0 → walk_on n next new put k s t ≡ t
  unfolding walk_on
  walk_on_none k s t e = rw e

  -- A walk from what is no task changes nothing.
  pub walk_on_past : (k s : ℕ) (t : S) → n ≤ s → walk_on n next new put k s t ≡ t
  unfolding walk_on
  walk_on_past zero s t h = refl
  walk_on_past (suc k) s t h = rw (le-ltb s n h)

  -- One turn of the walk.
  pub walk_on_turn : (k s : ℕ) (t : S) → k ≢ 0 → s < n → walk_on n next new put k s t ≡ walk_on n next new put (k - 1) (next t s) (put t s (new t s))
  unfolding walk_on
  walk_on_turn zero s t d h = absurd (d refl)
  walk_on_turn (suc k) s t d h = rw (lt-ltb s n h, sub-one)

  -- What each turn keeps true stays true.
  pub walk_on_inv : (P : S → Type 0) → ((t : S) (s : ℕ) → s < n → P t → P (put t s (new t s))) → (k s : ℕ) (t : S) → P t → P (walk_on n next new put k s t)
  unfolding walk_on
  walk_on_inv P keep zero s t h = h
  walk_on_inv P keep (suc k) s t h =
      ⊎_elim
      (λ l. rw (lt-ltb s n l) (walk_on_inv P keep k (next t s) (put t s (new t s)) (keep t s l h)))
      (λ l. rw (le-ltb s n l) h)
      (lt_or_le s n)

  -- What `put` does not change the walk does not.
  pub walk_on_keeps : {A : Type 0} (f : S → A) → ((t : S) (s p : ℕ) → s < n → f (put t s p) ≡ f t) → (k s : ℕ) (t : S) → f (walk_on n next new put k s t) ≡ f t
  walk_on_keeps f keep k s t = walk_on_inv (λ u. f u ≡ f t) (λ u i l e. keep u i (new u i) l ∙ e) k s t refl

-- ---- what the walk makes right

-- A chain of fewer than n waits leads from s to the task j, or none does.
leads_or : {n : ℕ} {next : ℕ → ℕ} → Ends n next → (s j : ℕ) → j < n → Within n next s j ⊎ (¬ Leads next s j)
leads_or {n} {next} ends s j l = go (leads n next n s j) refl
  where
    go : (b : Bool) → leads n next n s j ≡ b → Within n next s j ⊎ (¬ Leads next s j)
    go true e = inl (leads-sound n next j n s e)
    go false e = inr (λ c. true≢false (sym ((leads_exact ends l s).1 c) ∙ e))

-- `R t j`: task j is right in t. A turn makes its task right, leaves right what was, and changes no wait.
module _ {S : Type 0} (n : ℕ) (next new : S → ℕ → ℕ) (put : S → ℕ → ℕ → S) (R : S → ℕ → Type 0) (nexts : (t : S) (s p : ℕ) → s < n → next (put t s p) ≡ next t)
    (gains : (t : S) (s : ℕ) → s < n → R (put t s (new t s)) s) (keeps : (t : S) (s j : ℕ) → s < n → R t j → R (put t s (new t s)) j) where
  -- Each task that was right, or that the walk comes to, is right.
  walk_right : (k s : ℕ) (t : S) (j : ℕ) → Ends n (next t) → j < n → Within k (next t) s j ⊎ R t j → R (walk_on n next new put k s t) j
  unfolding walk_on after
  walk_right zero s t j ends l (inl (a, m, e)) = absurd (not-suc-le-zero m)
  walk_right zero s t j ends l (inr r) = r
  walk_right (suc k) s t j ends l h =
      ⊎_elim
      (λ c. rw (lt-ltb s n c) (walk_right k (next t s) u j (rw (nexts t s (new t s) c) ends) l (pass c h)))
      (λ c. rw (le-ltb s n c) (stay c h))
      (lt_or_le s n)
    where
      u : S
      u = put t s (new t s)

      pass : s < n → Within (suc k) (next t) s j ⊎ R t j → Within k (next u) (next t s) j ⊎ R u j
      pass c (inl (zero, m, e)) = inr (subst (R u) e (gains t s c))
      pass c (inl (suc a, m, e)) = inl (rw (nexts t s (new t s) c) (a, omega arith, e))
      pass c (inr r) = inr (keeps t s j c r)

      stay : n ≤ s → Within (suc k) (next t) s j ⊎ R t j → R t j
      stay out (inl (a, m, e)) = absurd (omega (arith, stays_out ends a out))
      stay out (inr r) = r

  -- After the walk from s each task is right, if before it each was to which no chain leads from s.
  pub walk-fresh : (s : ℕ) (t : S) → Ends n (next t) → ((j : ℕ) → j < n → ¬ Leads (next t) s j → R t j) → (j : ℕ) → j < n → R (walk_on n next new put n s t) j
  walk-fresh s t ends right j l = walk_right n s t j ends l (⊎_elim inl (λ c. inr (right j l c)) (leads_or ends s j l))
