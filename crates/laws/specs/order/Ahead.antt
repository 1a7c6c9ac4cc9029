-- Two tasks stand in the same order in all slots and in some of them.
use Rattle.std.specs.Prelude.{◌≡◌, ◌≢◌, Bool, ℕ, suc, ltb}
use Rattle.std.proofs.Math.Path.{refl}
use Rattle.std.proofs.Common.{sym, ◌∙◌, arith}
use Rattle.std.proofs.Math.Bool.{true, false}
use mathlib.Core.List.{List, [], ◌∷◌}
use Rattle.std.proofs.Math.Decide.{ℕ_discrete}
use Rattle.std.proofs.Math.Dec.{leb-suc-suc}
use borrow.Author.Tests.{eq-eqb, ne_eqb, ltb-true, lt-ltb, le-ltb}
use Rattle.queue.specs.Slots.{first_at, same, stands}
use Rattle.queue.specs.Order.{those, other}
use Rattle.queue.specs.Stands.{stands_front, stands_rest}
use Rattle.rules.specs.Table.{written}
use Rattle.laws.specs.order.Order.{Before}

-- v comes first of v and w.
abbrev ahead : ℕ → ℕ → List ℕ → Bool
ahead v w l = ltb (first_at (same v) l) (first_at (same w) l)

module _ (v w : ℕ) (x : ℕ) (xs : List ℕ) where
  ahead_front : x ≡ v → v ≢ w → ahead v w (x ∷ xs) ≡ true
  unfolding first_at
  ahead_front e d = rw (eq-eqb x v e, ne_eqb x w (λ p. d (sym e ∙ p))) (lt-ltb 0 (suc (first_at (same w) xs)) (omega arith))

  ahead_late : x ≡ w → ahead v w (x ∷ xs) ≡ false
  unfolding first_at
  ahead_late e = rw (eq-eqb x w e) (le-ltb (first_at (same v) (x ∷ xs)) 0 (omega arith))

  ahead_rest : x ≢ v → x ≢ w → ahead v w (x ∷ xs) ≡ ahead v w xs
  unfolding first_at
  ahead_rest d e = rw (ne_eqb x v d, ne_eqb x w e) (leb-suc-suc (suc (first_at (same v) xs)) (first_at (same w) xs))

module _ (p : ℕ → Bool) where
  take : (x : ℕ) (xs : List ℕ) → p x ≡ true → those p (x ∷ xs) ≡ x ∷ those p xs
  unfolding those
  take x xs e = rw e

  skip : (x : ℕ) (xs : List ℕ) → p x ≡ false → those p (x ∷ xs) ≡ those p xs
  unfolding those
  skip x xs e = rw e

  -- What passes stands among those that pass where it stood at all.
  stands-those : (v : ℕ) (l : List ℕ) → p v ≡ true → stands v (those p l) ≡ stands v l
  unfolding those
  stands-those v [] t = refl
  stands-those v (x ∷ xs) t = go (ℕ_discrete x v) (p x) refl (stands-those v xs t)
    where
      go : Dec (x ≡ v) → (b : Bool) → p x ≡ b → stands v (those p xs) ≡ stands v xs → stands v (those p (x ∷ xs)) ≡ stands v (x ∷ xs)
      go (yes e) b s r = rw (take x xs (rw e t), stands_front v x xs e, stands_front v x (those p xs) e)
      go (no d) true s r = rw (take x xs s, stands_rest v x xs d, stands_rest v x (those p xs) d) r
      go (no d) false s r = rw (skip x xs s, stands_rest v x xs d) r

  -- The first of two that pass is the first of them among those that pass.
  ahead-those : (v w : ℕ) (l : List ℕ) → v ≢ w → p v ≡ true → p w ≡ true → ahead v w (those p l) ≡ ahead v w l
  unfolding those
  ahead-those v w [] d t u = refl
  ahead-those v w (x ∷ xs) d t u = go (ℕ_discrete x v) (ℕ_discrete x w) (p x) refl (ahead-those v w xs d t u)
    where
      go : Dec (x ≡ v) → Dec (x ≡ w) → (b : Bool) → p x ≡ b → ahead v w (those p xs) ≡ ahead v w xs → ahead v w (those p (x ∷ xs)) ≡ ahead v w (x ∷ xs)
      go (yes e) f b s r = rw (take x xs (rw e t), ahead_front v w x xs e d, ahead_front v w x (those p xs) e d)
      go (no e) (yes f) b s r = rw (take x xs (rw f u), ahead_late v w x xs f, ahead_late v w x (those p xs) f)
      go (no e) (no f) true s r = rw (take x xs s, ahead_rest v w x xs e f, ahead_rest v w x (those p xs) e f) r
      go (no e) (no f) false s r = rw (skip x xs s, ahead_rest v w x xs e f) r

-- Where the slots that pass are the same, two tasks that pass stand in the same order.
pub before-those : {l m : List ℕ} (p : ℕ → Bool) (a b : ℕ) → a ≢ b → p (written a) ≡ true → p (written b) ≡ true → those p m ≡ those p l
    → Before a b l → Before a b m
before-those {l} {m} p a b d t u e h =
    record {
      first = ltb-true _ _ (sym (ahead-those p v w m z t u) ∙ rw e (ahead-those p v w l z t u ∙ lt-ltb _ _ h.first));
      both = ltb-true _ _ (sym (stands-those p w m u) ∙ rw e (stands-those p w l u ∙ lt-ltb _ _ h.both));
    }
  where
    v : ℕ
    v = written a

    w : ℕ
    w = written b

    z : v ≢ w
    z e = d (omega arith)

-- A task other than i passes among those other than i.
pub other_passes : (i a : ℕ) → a ≢ i → other (written i) (written a) ≡ true
other_passes i a d = rw (ne_eqb (written a) 0 (λ e. omega arith), ne_eqb (written a) (written i) (λ e. d (omega arith)))
