-- The player plays in order, whoever lined up and changed its level before.
use Rattle.std.specs.Prelude.{◌≡◌, Bool, true, cond, ◌&&◌, eqb, take, set}
use Rattle.std.proofs.Math.Path.{refl, sym, ap}
use Rattle.std.proofs.Common.{subst, ◌∙◌, inl, inr, arith, take_all, get_or-set_other, eq-eqb, ne_eqb}
use Rattle.std.proofs.Math.Bool.{false, not, and-false}
use mathlib.Core.List.{List, [], ◌∷◌, ◌++◌, map}
use Prim.Native.Nat.{ℕ, zero, suc, ◌+◌, ◌-◌, ◌≤◌}
use Rattle.std.proofs.Math.Decide.{ℕ_discrete}
use Rattle.std.proofs.Math.ListN.{length, length-set}
use Rattle.queue.specs.Slots.{first_at, key_of, pull, closed, without}
use Rattle.queue.specs.Order.{Le, All, none, more, Ordered, empty, front, those, other, level, Whole}
use Rattle.queue.specs.Answers.{Answer, head_of, insert_answer, move_answer}
use Rattle.queue.specs.Keeps.{all_map, key_own, Agree}
use Rattle.queue.specs.Stable.{those-skip}
use Rattle.queue.specs.Changes.{made, newly, Bytes, peer, free-whole, inserted-whole, inserted-level, inserted-bytes, replaced_in-whole, replaced_in-level, replaced_in-bytes}
use Rattle.cues.specs.Plays.{played}
use Rattle.cues.specs.Evening.{level_of, Rising, nothing, next, of_level, InOrder, Desk, Step, lines_up, changes, accepted, step, evening, Opens}

-- ---- the queue's ids, from the front up to the first free slot

unfoldable ids : List ℕ → List ℕ
ids [] = []
ids (x ∷ xs) = cond (eqb x 0) [] ((x - 1) ∷ ids xs)

ids-pull : (x : ℕ) (xs : List ℕ) → ids (pull (x ∷ xs)) ≡ ids xs
unfolding ids pull
ids-pull x [] = refl
ids-pull x (y ∷ ys) = go (eqb y 0) (ids-pull y ys)
  where
    go : (b : Bool) → ids (pull (y ∷ ys)) ≡ ids ys → cond b [] ((y - 1) ∷ ids (cond b (y ∷ ys) (pull (y ∷ ys)))) ≡ cond b [] ((y - 1) ∷ ids ys)
    go true r = refl
    go false r = ap (λ (l : List ℕ). (y - 1) ∷ l) r

-- The first leaves.
front_out : (x : ℕ) (xs : List ℕ) → (x ≡ 0 → ⊥) → without (x - 1) (x ∷ xs) ≡ pull (x ∷ xs)
unfolding closed first_at
front_out x xs h = rw (eq-eqb x (x - 1 + 1) (omega arith))

-- What is played is the queue's ids, as many as there is room for.
played-ids : (n : ℕ) (l : List ℕ) → played n l ≡ take n (ids l)
unfolding played head_of ids
played-ids zero l = refl
played-ids (suc n) [] = refl
played-ids (suc n) (x ∷ xs) = go (ℕ_discrete x 0) (played-ids n (pull (x ∷ xs)))
  where
    go : Dec (x ≡ 0) → played n (pull (x ∷ xs)) ≡ take n (ids (pull (x ∷ xs))) → played (suc n) (x ∷ xs) ≡ take (suc n) (ids (x ∷ xs))
    go (yes e) r = rw (eq-eqb x 0 e)
    go (no h) r = rw (ne_eqb x 0 h) (ap (λ (l : List ℕ). (x - 1) ∷ l) (ap (played n) (front_out x xs h) ∙ r ∙ ap (take n) (ids-pull x xs)))

-- ---- by their levels

module _ (levels : List ℕ) where
  ids-later : (x : ℕ) {xs : List ℕ} → All (Le levels x) xs → All (λ later. level_of levels (x - 1) ≤ level_of levels later) (ids xs)
  unfolding ids
  ids-later x none = none
  ids-later x (more {x = y} {xs = ys} p a) = go (ℕ_discrete y 0) p (ids-later x a)
    where
      P : ℕ → Type 0
      P later = level_of levels (x - 1) ≤ level_of levels later

      go : Dec (y ≡ 0) → Le levels x y → All P (ids ys) → All P (ids (y ∷ ys))
      go (yes e) q r = rw (eq-eqb y 0 e) none
      go (no h) (inl e) r = absurd (h e)
      go (no h) (inr q) r = rw (ne_eqb y 0 h) (more q.1 r)

  ids-rising : {l : List ℕ} → Ordered levels l → Rising levels (ids l)
  unfolding ids
  ids-rising empty = nothing
  ids-rising (front {x} {xs} a o) = go (ℕ_discrete x 0) (ids-rising o)
    where
      go : Dec (x ≡ 0) → Rising levels (ids xs) → Rising levels (ids (x ∷ xs))
      go (yes e) r = rw (eq-eqb x 0 e) nothing
      go (no h) r = rw (ne_eqb x 0 h) (next (ids-later x a) r)

  all_take : {P : ℕ → Type 0} {l : List ℕ} (n : ℕ) → All P l → All P (take n l)
  all_take zero a = none
  all_take (suc n) none = none
  all_take (suc n) (more p a) = more p (all_take n a)

  rising-take : {l : List ℕ} (n : ℕ) → Rising levels l → Rising levels (take n l)
  rising-take zero r = nothing
  rising-take (suc n) nothing = nothing
  rising-take (suc n) (next a r) = next (all_take n a) (rising-take n r)

  -- A queue in order is played in the order of the levels, whatever room there is.
  pub played-rising : {l : List ℕ} (n : ℕ) → Ordered levels l → Rising levels (played n l)
  played-rising {l} n o = subst (Rising levels) (sym (played-ids n l)) (rising-take n (ids-rising o))

-- ---- among equals

abbrev slot : ℕ → ℕ
slot cue = cue + 1

slots_back : (c : List ℕ) → map (λ v. v - 1) (map slot c) ≡ c
slots_back [] = refl
slots_back (x ∷ xs) = let e : x + 1 - 1 ≡ x = omega arith in rw (e, slots_back xs)

slots_append : (a b : List ℕ) → map slot (a ++ b) ≡ map slot a ++ map slot b
slots_append [] b = refl
slots_append (x ∷ xs) b = ap (λ (r : List ℕ). slot x ∷ r) (slots_append xs b)

-- A choice of slots is the same choice of their cues.
those-slots : (p q : ℕ → Bool) → ((x : ℕ) → p (slot x) ≡ q x) → (c : List ℕ) → those p (map slot c) ≡ map slot (those q c)
unfolding those
those-slots p q h [] = refl
those-slots p q h (x ∷ xs) = rw (h x) (go (q x) (those-slots p q h xs))
  where
    go : (b : Bool) → those p (map slot xs) ≡ map slot (those q xs) → cond b (slot x ∷ those p (map slot xs)) (those p (map slot xs)) ≡ map slot (cond b (x ∷ those q xs) (those q xs))
    go true r = ap (λ (l : List ℕ). slot x ∷ l) r
    go false r = r

-- Those of a level, and all but one.
slots-level : (levels : List ℕ) (k : ℕ) (c : List ℕ) → those (level levels k) (map slot c) ≡ map slot (of_level levels k c)
slots-level levels k = those-slots (level levels k) (λ cue. eqb (level_of levels cue) k) (λ x. rw (ne_eqb (x + 1) 0 (λ e. omega arith), key_own levels x))

slots_other : (cue : ℕ) (c : List ℕ) → those (other (slot cue)) (map slot c) ≡ map slot (those (λ x. not (eqb x cue)) c)
slots_other cue = those-slots (other (slot cue)) (λ x. not (eqb x cue)) (λ x. go x (ℕ_discrete x cue))
  where
    go : (x : ℕ) → Dec (x ≡ cue) → other (slot cue) (slot x) ≡ not (eqb x cue)
    go x (yes e) = rw (eq-eqb x cue e, eq-eqb (x + 1) (cue + 1) (ap slot e)) (and-false (not (eqb (x + 1) 0)))
    go x (no h) = rw (ne_eqb x cue h, ne_eqb (x + 1) (cue + 1) (λ e. h (omega arith)), ne_eqb (x + 1) 0 (λ e. omega arith))

module _ (levels : List ℕ) (k : ℕ) where
  none_free : {l : List ℕ} → All (λ v. v ≡ 0) l → those (level levels k) l ≡ []
  unfolding those
  none_free none = refl
  none_free (more {x} {xs} e a) = those-skip (level levels k) x xs (rw (eq-eqb x 0 e)) ∙ none_free a

  ids-level : {l : List ℕ} → Ordered levels l → those (level levels k) l ≡ map slot (of_level levels k (ids l))
  unfolding those ids
  ids-level empty = refl
  ids-level (front {x} {xs} a o) = go (ℕ_discrete x 0) (ids-level o)
    where
      free : x ≡ 0 → (y : ℕ) → Le levels x y → y ≡ 0
      free e y (inl p) = p
      free e y (inr p) = absurd (p.0 e)

      turn : (b : Bool) → x - 1 + 1 ≡ x → those (level levels k) xs ≡ map slot (of_level levels k (ids xs))
          → cond b (x ∷ those (level levels k) xs) (those (level levels k) xs) ≡ map slot (cond b ((x - 1) ∷ of_level levels k (ids xs)) (of_level levels k (ids xs)))
      turn true e r = rw (e, r)
      turn false e r = r

      go : Dec (x ≡ 0) → those (level levels k) xs ≡ map slot (of_level levels k (ids xs)) → those (level levels k) (x ∷ xs) ≡ map slot (of_level levels k (ids (x ∷ xs)))
      go (yes e) r = none_free (more e (all_map (free e) a)) ∙ rw (eq-eqb x 0 e)
      go (no h) r = rw (ne_eqb x 0 h) (turn (eqb (key_of levels x) k) (omega arith) r)

-- ---- choices of slots

those_append : (p : ℕ → Bool) (a b : List ℕ) → those p (a ++ b) ≡ those p a ++ those p b
unfolding those
those_append p [] b = refl
those_append p (x ∷ xs) b = go (p x) (those_append p xs b)
  where
    go : (c : Bool) → those p (xs ++ b) ≡ those p xs ++ those p b → cond c (x ∷ those p (xs ++ b)) (those p (xs ++ b)) ≡ cond c (x ∷ those p xs) (those p xs) ++ those p b
    go true r = ap (λ (l : List ℕ). x ∷ l) r
    go false r = r

those_same : (p q : ℕ → Bool) → ((x : ℕ) → p x ≡ q x) → (l : List ℕ) → those p l ≡ those q l
unfolding those
those_same p q h [] = refl
those_same p q h (x ∷ xs) = ap (λ (b : Bool). cond b (x ∷ those p xs) (those p xs)) (h x) ∙ ap (λ (r : List ℕ). cond (q x) (x ∷ r) r) (those_same p q h xs)

-- One choice of another is the choice by both, in either order.
those_both : (p q : ℕ → Bool) (l : List ℕ) → those (λ x. p x && q x) l ≡ those p (those q l)
unfolding those
those_both p q [] = refl
those_both p q (x ∷ xs) = go (p x) refl (q x) (those_both p q xs)
  where
    go : (a : Bool) → p x ≡ a → (b : Bool) → those (λ x. p x && q x) xs ≡ those p (those q xs)
        → cond (a && b) (x ∷ those (λ x. p x && q x) xs) (those (λ x. p x && q x) xs) ≡ those p (cond b (x ∷ those q xs) (those q xs))
    go true d false r = r
    go false d false r = r
    go true d true r = rw d (ap (λ (l : List ℕ). x ∷ l) r)
    go false d true r = rw d r

those-swap : (p q : ℕ → Bool) (l : List ℕ) → those p (those q l) ≡ those q (those p l)
those-swap p q l = sym (those_both p q l) ∙ those_same (λ x. p x && q x) (λ x. q x && p x) (λ x. swap (p x) (q x)) l ∙ those_both q p l
  where
    swap : (a b : Bool) → a && b ≡ b && a
    swap true true = refl
    swap true false = refl
    swap false true = refl
    swap false false = refl

-- ---- an evening

-- What holds all the evening.
record Holds (d : Desk) : Type 0 where
  whole : Whole d.levels d.queue
  small : Bytes d.queue
  stable : (k : ℕ) → those (level d.levels k) d.queue ≡ those (level d.levels k) (map slot d.came)

opens_holds : (d : Desk) → Opens d → Holds d
unfolding those
opens_holds d o = record {
  whole = free-whole d.levels o.free;
  small = all_map (λ v e. omega (arith, e)) o.free;
  stable = λ k. none_free d.levels k o.free ∙ ap (λ (c : List ℕ). those (level d.levels k) (map slot c)) (sym o.nobody);
}

-- Who is accepted comes behind those that came.
came-level : (q : ℕ → Bool) (a : Answer) (cue : ℕ) (c : List ℕ) → those q (map slot (c ++ accepted (made a) cue)) ≡ those q (map slot c) ++ those q (newly a cue)
came-level q a cue c = ap (those q) (slots_append c (accepted (made a) cue) ∙ ap (λ (r : List ℕ). map slot c ++ r) (go (made a))) ∙ those_append q (map slot c) (newly a cue)
  where
    go : (b : Bool) → map slot (accepted b cue) ≡ cond b (slot cue ∷ []) []
    go true = refl
    go false = refl

comes-holds : (cue : ℕ) (d : Desk) → Holds d → Holds (step (lines_up cue) d)
unfolding step
comes-holds cue d h = record {
  whole = inserted-whole d.levels cue d.queue h.whole;
  small = inserted-bytes d.levels cue d.queue h.small;
  stable = λ k.
      let q = level d.levels k in
      let a = insert_answer d.levels cue d.queue in
      inserted-level d.levels cue d.queue k h.whole.ordered ∙ ap (λ (r : List ℕ). r ++ those q (newly a cue)) (h.stable k) ∙ sym (came-level q a cue d.came);
}

module _ (cue x : ℕ) (d : Desk) (h : Holds d) where
  abbrev keys : List ℕ
  keys = set d.levels cue x

  agree : Agree d.levels keys (slot cue)
  agree v n m = get_or-set_other d.levels cue (v - 1) x 0 (λ e. m (omega arith))

  -- The others of a level are those that they were.
  peer-agree : (k v : ℕ) → peer keys k (slot cue) v ≡ peer d.levels k (slot cue) v
  peer-agree k v = go (ℕ_discrete v 0) (ℕ_discrete v (slot cue))
    where
      go : Dec (v ≡ 0) → Dec (v ≡ slot cue) → peer keys k (slot cue) v ≡ peer d.levels k (slot cue) v
      go (yes e) f = rw (eq-eqb v 0 e)
      go (no n) (yes e) = rw (eq-eqb v (cue + 1) e, and-false (not (eqb v 0)))
      go (no n) (no m) = ap (λ (key : ℕ). other (slot cue) v && (not (eqb v 0) && eqb key k)) (agree v n m)

  others-level : (k : ℕ) → those (peer keys k (slot cue)) d.queue ≡ those (level keys k) (map slot (those (λ other. not (eqb other cue)) d.came))
  others-level k =
      let p = other (slot cue) in
      let s = map slot d.came in
      let new = peer keys k (slot cue) in
      let old = peer d.levels k (slot cue) in
      those_same new old (peer-agree k) d.queue
      ∙ those_both p (level d.levels k) d.queue
      ∙ ap (those p) (h.stable k)
      ∙ sym (those_both p (level d.levels k) s)
      ∙ sym (those_same new old (peer-agree k) s)
      ∙ those_both p (level keys k) s
      ∙ those-swap p (level keys k) s
      ∙ ap (those (level keys k)) (slots_other cue d.came)

  changes-holds : Holds (step (changes cue x) d)
  unfolding step
  changes-holds =
      let n : length keys ≡ length d.levels = length-set d.levels cue x in
      record {
        whole = replaced_in-whole false d.levels keys cue d.queue h.whole n agree h.small;
        small = replaced_in-bytes false keys cue d.queue h.small;
        stable = λ k.
            let q = level keys k in
            let a = move_answer keys cue d.queue in
            replaced_in-level false d.levels keys cue d.queue h.whole n agree h.small k
            ∙ ap (λ (r : List ℕ). r ++ those q (newly a cue)) (others-level k)
            ∙ sym (came-level q a cue (those (λ other. not (eqb other cue)) d.came));
      }

step-holds : (s : Step) (d : Desk) → Holds d → Holds (step s d)
step-holds (lines_up cue) d h = comes-holds cue d h
step-holds (changes cue x) d h = changes-holds cue x d h

evening-holds : (steps : List Step) (d : Desk) → Holds d → Holds (evening steps d)
unfolding evening
evening-holds [] d h = h
evening-holds (s ∷ steps) d h = evening-holds steps (step s d) (step-holds s d h)

-- ---- the theorem

ids-length : (l : List ℕ) → length (ids l) ≤ length l
unfolding ids
ids-length [] = omega arith
ids-length (x ∷ xs) = go (eqb x 0) (ids-length xs)
  where
    go : (b : Bool) → length (ids xs) ≤ length xs → length (cond b [] ((x - 1) ∷ ids xs)) ≤ suc (length xs)
    go true r = omega arith
    go false r = omega arith

holds_in_order : (d : Desk) (n : ℕ) → length d.queue ≤ n → Holds d → InOrder d.levels d.came (played n d.queue)
holds_in_order d n room h = record { rising = played-rising d.levels n h.whole.ordered; stable = stable }
  where
    all : played n d.queue ≡ ids d.queue
    all = played-ids n d.queue ∙ take_all n (ids d.queue) (omega (arith, ids-length d.queue))

    stable : (k : ℕ) → of_level d.levels k (played n d.queue) ≡ of_level d.levels k d.came
    stable k =
        let slots = sym (ids-level d.levels k h.whole.ordered) ∙ h.stable k ∙ slots-level d.levels k d.came in
        ap (of_level d.levels k) all ∙ sym (slots_back (of_level d.levels k (ids d.queue))) ∙ ap (map (λ v. v - 1)) slots ∙ slots_back (of_level d.levels k d.came)

-- Whatever lines up and changes its level from free slots on: played with room for all, the cues come in the order of their levels, and
-- among equals in the order in which they came.
pub plays_in_order : (steps : List Step) (d : Desk) → Opens d → (n : ℕ) → length (evening steps d).queue ≤ n
    → InOrder (evening steps d).levels (evening steps d).came (played n (evening steps d).queue)
plays_in_order steps d o n room = holds_in_order (evening steps d) n room (evening-holds steps d (opens_holds d o))
