-- Who waits for what, seen at the fronts of the queues: where the queues are sound, an object with a waiter is one whose queue is not empty.
use Rattle.std.specs.Prelude.{◌≡◌, ◌⊎◌, ◌≢◌, Bool, false, not, ◌&&◌, ℕ, ◌+◌, ◌-◌, ◌≤◌, ◌<◌, eqb, leb, ltb}
use Rattle.std.proofs.Common.{ap, subst, ◌∙◌, inl, inr, arith, eq-eqb, ne_eqb}
use Rattle.std.proofs.Math.Bool.{true}
use Rattle.std.proofs.Math.ListN.{get_or-eq_default}
use Rattle.rules.specs.Sizes.{task_count, mutex_count}
use Rattle.rules.specs.Table.{Table, task_of, mutex_of, queue_count, able_queue, mutex_queue, first_in, holder_of, no_task}
use Rattle.rules.specs.Family.{Family, Among, families, mutexes, waiters_of, objects_in, place_of}
use Rattle.rules.specs.Sound.{Each, each, each_of, implies, Shaped, SoundTasks, MayWait, SoundWait, is_sound_wait, SoundQueues}
use Rattle.rules.specs.Afresh.{lt_or_le}
use Rattle.rules.proofs.Tested.{wait_right}
use Rattle.rules.specs.Decides.{Decides, same_test, equals, at_most, itself, fails, if_so, first, last, both, each_one, each_of_lem}
use Rattle.sound.specs.Ready.{worded}
use Rattle.laws.specs.queues.Rows.{among-mutexes, of_families, first_queue, last_queue, numbers, one_family, one_queue}
use Rattle.laws.specs.queues.Stands.{free-place, waiter-place, waiter_there, first_range, first_there, empty_none}
use Rattle.laws.specs.keeps.Objects.{may-apart}
use Rattle.sound.specs.Tests.{always}

-- ---- the tests

-- The object of queue q, of whichever family, is in use and has nothing to take.
unfoldable pub is_awaited : Table → ℕ → Bool
is_awaited t q =
    each_of families (λ f.
    implies (leb f.first q && ltb q (f.first + f.count)) (eqb (f.used t (q - f.first)) 1 && not (f.offers t (q - f.first))))

unfoldable pub is_front_sound : Table → ℕ → Bool
is_front_sound t q = implies (not (eqb (first_in q t) 0)) (is_awaited t q)

-- "a holder is in use and does not wait for the mutex it holds"
unfoldable pub is_holder_sound : Table → ℕ → Bool
is_holder_sound t m =
    implies (not (eqb (mutex_of t m).holder 0))
    (eqb (task_of t ((mutex_of t m).holder - 1)).used 1 && not (eqb (place_of (task_of t ((mutex_of t m).holder - 1))) (mutex_queue m)))

-- The rules' own.
abbrev pub are_waits_sound : Table → Bool
are_waits_sound t = each task_count (λ i. is_sound_wait t i (task_of t i).state (task_of t i).object)

abbrev pub are_holders_used : Table → Bool
are_holders_used t = each mutex_count (λ m. implies (not (eqb (mutex_of t m).holder 0)) (eqb (task_of t ((mutex_of t m).holder - 1)).used 1))

-- ---- what they say

abbrev pub Waits : Table → Type 0
Waits t = Each task_count (λ i. SoundWait t i (task_of t i).state (task_of t i).object)

abbrev pub HoldersUsed : Table → Type 0
HoldersUsed t = Each mutex_count (λ m. (mutex_of t m).holder ≢ 0 → (task_of t ((mutex_of t m).holder - 1)).used ≡ 1)

abbrev Awaited : Table → ℕ → Type 0
Awaited t q = (f : Family) → Among f families → (f.first ≤ q) × (q < f.first + f.count) → (f.used t (q - f.first) ≡ 1) × (f.offers t (q - f.first) ≡ true → ⊥)

awaited : (t : Table) (q : ℕ) → Decides (is_awaited t q) (Awaited t q)
unfolding is_awaited
awaited t q = each_of_lem λ f. if_so (both at_most at_most) (both equals (fails itself))

front : (t : Table) (q : ℕ) → Decides (is_front_sound t q) (first_in q t ≢ 0 → Awaited t q)
unfolding is_front_sound
front t q = if_so (fails equals) (awaited t q)

abbrev Apart : Table → ℕ → Type 0
Apart t m = (mutex_of t m).holder ≢ 0 → ((task_of t ((mutex_of t m).holder - 1)).used ≡ 1) × (place_of (task_of t ((mutex_of t m).holder - 1)) ≢ mutex_queue m)

holder : (t : Table) (m : ℕ) → Decides (is_holder_sound t m) (Apart t m)
unfolding is_holder_sound
holder t m = if_so (fails equals) (both equals (fails equals))

-- ---- as the code asks

module _ (t : Table) (m : ℕ) where
  pub unheld : (mutex_of t m).holder ≡ 0 → true ≡ is_holder_sound t m
  unfolding is_holder_sound
  unheld e = rw (eq-eqb (mutex_of t m).holder 0 e)

  -- What is past the tasks is in no use.
  pub held_past : Shaped t → task_count < (mutex_of t m).holder → false ≡ is_holder_sound t m
  unfolding is_holder_sound
  held_past s h =
      rw (ne_eqb (mutex_of t m).holder 0 (λ e. omega arith), get_or-eq_default t.tasks no_task {n = (mutex_of t m).holder - 1} (omega (arith, s.tasks)))

  pub held-within : (mutex_of t m).holder ≢ 0
      → eqb (task_of t ((mutex_of t m).holder - 1)).used 1 && not (eqb (place_of (task_of t ((mutex_of t m).holder - 1))) (mutex_queue m)) ≡ is_holder_sound t m
  unfolding is_holder_sound
  held-within n = rw (ne_eqb (mutex_of t m).holder 0 n)

-- There is nothing above where there is nothing.
pub none_above : (n : ℕ) → eqb n 0 ≡ not (ltb 0 n)
none_above n = same_test equals (last (λ e l. omega arith) (fails at_most) (λ m. none m))
  where
    none : (0 < n → ⊥) → n ≡ 0
    none m = omega arith

module _ (t : Table) (q : ℕ) where
  -- The able queue has no object; another has one, of one family.
  pub awaited_none : q ≡ able_queue → true ≡ is_awaited t q
  awaited_none e = same_test (always (λ f a w. absurd (omega (arith, first_queue a)))) (awaited t q)

  pub awaited_one : {f : Family} → Among f families → f.first ≤ q → q < f.first + f.count → eqb (f.used t (q - f.first)) 1 && not (f.offers t (q - f.first)) ≡ is_awaited t q
  awaited_one {f} a l h = same_test (last (λ w. w f a (l, h)) (both equals (fails itself)) one) (awaited t q)
    where
      one : (f.used t (q - f.first) ≡ 1) × (f.offers t (q - f.first) ≡ true → ⊥) → Awaited t q
      one w g b (m, k) =
          let same = one_family a b (one_queue a b (q - f.first) (q - g.first) (omega arith) (omega arith) (omega arith)).0 in
          subst (λ (x : Family). (x.used t (q - x.first) ≡ 1) × (x.offers t (q - x.first) ≡ true → ⊥)) same w

-- The rules' own.
pub waits_right : (t : Table) → Decides (are_waits_sound t && are_holders_used t) (Waits t × HoldersUsed t)
waits_right t = both (each_one λ i l. wait_right t i (task_of t i).state (task_of t i).object) (each_one λ m l. if_so (fails equals) equals)

-- ---- where the queues are sound, whatever the word

module _ (t : Table) (tasks : SoundTasks t) (s : SoundQueues (worded t)) where
  -- What is written in no task's place stands nowhere.
  placed-task : (j : ℕ) → place_of (task_of t j) < queue_count → j < task_count
  placed-task j h = go (lt_or_le j task_count)
    where
      go : (j < task_count) ⊎ (task_count ≤ j) → j < task_count
      go (inl l) = l
      go (inr l) = absurd (omega (arith, free-place, ap place_of (get_or-eq_default t.tasks no_task {n = j} (omega (arith, s.shaped.tasks)))))

  waits_front : Waits t → Each queue_count (λ q. first_in q t ≢ 0 → Awaited t q)
  waits_front waits q h d f a (le, lt) =
      let j = first_in q t - 1 in
      let o = q - f.first in
      let l : j < task_count = omega (arith, first_range s q h) in
      let (e, x) = waiter_there (task_of t j) a (tasks j l).in_range.object o (omega arith) (first_there s q h d ∙ there le) in
      let w : MayWait f t j o = subst (MayWait f t j) x (waits j l f a e) in
      (w.used, w.nothing)
    where
      there : f.first ≤ q → q ≡ waiters_of f (q - f.first)
      there le = omega arith

  waits-apart : Waits t → HoldersUsed t → Each mutex_count (Apart t)
  waits-apart waits used m h n = (used m h n, λ e. let l = placed-task i (omega arith) in let (x, y) = waiter_there (task_of t i) among-mutexes (tasks i l).in_range.object m h e in own l (subst (MayWait mutexes t i) y (waits i l mutexes among-mutexes x)))
    where
      i : ℕ
      i = (mutex_of t m).holder - 1

      own : i < task_count → MayWait mutexes t i m → ⊥
      own l w = (may-apart t i m l w).apart (omega arith)

  -- The task of such a queue does not hold the object.
  stranger : Each mutex_count (Apart t) → (i : ℕ) → i < task_count → (o : ℕ) → (f : Family) → Among f families
      → place_of (task_of t i) ≡ waiters_of f o → o < f.count → (f.offers t o ≡ true → ⊥) → f.holder t o ≡ i → ⊥
  unfolding holder_of
  stranger apart i l o = of_families _ (λ p b n e. omega arith) own (λ p b n e. omega arith) (λ p b n e. omega arith)
    where
      own : place_of (task_of t i) ≡ waiters_of mutexes o → o < mutex_count → (eqb (mutex_of t o).holder 0 ≡ true → ⊥) → holder_of t o ≡ i → ⊥
      own p b n e =
          let d : (mutex_of t o).holder ≢ 0 = λ z. n (eq-eqb _ _ z) in
          let same : (mutex_of t o).holder - 1 ≡ i = rw (ne_eqb (mutex_of t o).holder 0 d) at e in
          (apart o b d).1 (ap (λ (j : ℕ). place_of (task_of t j)) same ∙ p)

  front_waits : Each queue_count (λ q. first_in q t ≢ 0 → Awaited t q) → Each mutex_count (Apart t) → Waits t
  front_waits fronts apart i l f a e =
      let o = (task_of t i).object in
      let p = waiter-place (task_of t i) a e in
      let b : o < f.count = omega (arith, (tasks i l).in_range.object, ap objects_in e, numbers a) in
      let h : waiters_of f o < queue_count = omega (arith, last_queue a) in
      let back : waiters_of f o - f.first ≡ o = omega arith in
      let w = fronts (waiters_of f o) h (λ z. empty_none s (waiters_of f o) h z i l p) f a (omega arith, omega arith) in
      let (used, nothing) = subst (λ (n : ℕ). (f.used t n ≡ 1) × (f.offers t n ≡ true → ⊥)) back w in
      record { used = used; nothing = nothing; apart = stranger apart i l o f a p b nothing }

  -- What the fronts and the holders tell is what the rules ask of all who wait.
  pub waits-say : Decides (each queue_count (is_front_sound t) && each mutex_count (is_holder_sound t)) (Waits t × HoldersUsed t)
  waits-say =
      first (λ r. waits_front r.0) (each_one λ q h. front t q) λ fronts.
      last (λ r. waits-apart r.0 r.1) (each_one λ m h. holder t m) λ apart.
      (front_waits fronts apart, λ m h n. (apart m h n).0)
