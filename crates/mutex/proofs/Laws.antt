-- The calls on mutexes, case by case.
use mathlib.Core.Path.{◌≡◌, refl, ap, ◌∙◌}
use mathlib.Core.Bool.{Bool, true, false, cond, not}
use Prim.Native.Nat.{ℕ, ◌+◌, ◌-◌, ◌≤◌, ◌<◌}
use native.Mathlib.Omega.{arith}
use borrow.Author.Tests.{le-leb, lt-leb, lt-ltb, le-ltb, eq-eqb, ne_eqb}
use Rattle.rules.specs.Sizes.{most_nested, given, done, none_running, not_its_holder, nested_too_deep}
use Rattle.rules.specs.Table.{Table, nothing_asked, task_of, mutex_of, written}
use Rattle.rules.specs.Move.{put, ready}
use Rattle.rules.specs.Time.{caller_of}
use Rattle.rules.specs.Object.{on_one, block_answer, waits, taken}
use Rattle.rules.specs.Family.{mutexes}
use Rattle.rules.specs.Mutex.{is_own, with_hold_of, take_answer, wait, handed, released, post_answer, post}

module _ (i : ℕ) (t : Table) where
  -- ---- a wait: it takes, it nests, or it blocks

  module _ {h c : ℕ} (holder : h ≡ (mutex_of t i).holder) (caller : c ≡ caller_of t) where
    pub takes-answer : (block : ℕ) → h ≡ 0 → done ≡ take_answer i block t
    takes-answer block e = rw (← holder, eq-eqb _ _ e)

    pub takes : (limit : ℕ) → h ≡ 0 → taken (with_hold_of i (c + 1) 1 t) ≡ wait i limit t
    unfolding wait
    takes limit e = rw (← holder, ← caller, eq-eqb _ _ e)

    module _ (held : h ≡ 0 → ⊥) (other : h ≡ c + 1 → ⊥) where
      pub blocks-answer : (block : ℕ) → block_answer block t ≡ take_answer i block t
      blocks-answer block = rw (← holder, ← caller, ne_eqb _ _ held, ne_eqb _ _ other)

      pub blocks : (limit : ℕ) → waits mutexes i limit nothing_asked t ≡ wait i limit t
      unfolding wait
      blocks limit = rw (← holder, ← caller, ne_eqb _ _ held, ne_eqb _ _ other)

    module _ (held : h ≡ 0 → ⊥) (own : h ≡ c + 1) {n : ℕ} (nesting : n ≡ (mutex_of t i).nesting) where
      pub deep_answer : (block : ℕ) → most_nested ≤ n → nested_too_deep ≡ take_answer i block t
      deep_answer block l = rw (← holder, ← caller, ← nesting, ne_eqb _ _ held, eq-eqb _ _ own, le-leb _ _ l)

      pub nests-answer : (block : ℕ) → n < most_nested → done ≡ take_answer i block t
      nests-answer block l = rw (← holder, ← caller, ← nesting, ne_eqb _ _ held, eq-eqb _ _ own, lt-leb _ _ l)

      pub nests : (limit : ℕ) → taken (with_hold_of i h (n + 1) t) ≡ wait i limit t
      unfolding wait
      nests limit = rw (← holder, ← caller, ← nesting, ne_eqb _ _ held, eq-eqb _ _ own)

  -- ---- a post: it is nested once less, or let go

  module _ {n : ℕ} (nesting : n ≡ (mutex_of t i).nesting) where
    pub post_keeps : {h : ℕ} → h ≡ (mutex_of t i).holder → 1 < n → with_hold_of i h (n - 1) t ≡ post i t
    unfolding post
    post_keeps holder l = rw (← nesting, ← holder, lt-ltb _ _ l)

    pub post_releases : n ≤ 1 → released i t ≡ post i t
    unfolding post
    post_releases l = rw (← nesting, le-ltb _ _ l)

  -- ---- a mutex that is let go is handed on

  pub handed_none : t ≡ handed i 0 t
  unfolding handed
  handed_none = refl

  pub handed_some : (w : ℕ) → (u : Table) → u ≡ with_hold_of i (written w) 1 t → put w (ready given (task_of u w)) u ≡ handed i (written w) t
  unfolding handed
  handed_some w u e =
      let it : written w - 1 ≡ w = omega arith in
      rw (it, ne_eqb (written w) 0 (λ z. omega (arith, z)), e)

  -- ---- the answer of a post

  module _ {r : ℕ} (runs : r ≡ t.running) where
    pub nobody-posts : r ≡ 0 → none_running ≡ post_answer i t
    unfolding post_answer
    nobody-posts e = rw (← runs, eq-eqb _ _ e)

    pub posts : (r ≡ 0 → ⊥) → {a : ℕ} → a ≡ on_one mutexes i t (cond (not (is_own i t)) not_its_holder done) → a ≡ post_answer i t
    unfolding post_answer
    posts d e = rw (ne_eqb t.running 0 (λ z. d (runs ∙ z))) e

  -- of a mutex in use, by whoever holds it or not
  module _ {b : Bool} (own : b ≡ is_own i t) where
    answer : {n : ℕ} → n ≡ cond (not b) not_its_holder done → n ≡ cond (not (is_own i t)) not_its_holder done
    answer e = e ∙ ap (λ (x : Bool). cond (not x) not_its_holder done) own

    pub not-own : b ≡ false → not_its_holder ≡ cond (not (is_own i t)) not_its_holder done
    not-own e = answer (rw e refl)

    pub own_mutex : b ≡ true → done ≡ cond (not (is_own i t)) not_its_holder done
    own_mutex e = answer (rw e refl)
