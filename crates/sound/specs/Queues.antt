-- All queues, one by one. Once each is walked and no spot is left, each task stands in its queue once and nowhere else.
use Rattle.std.specs.Prelude.{◌≡◌, refl, ◌⊎◌, Bool, false, cond, ◌&&◌, List, eqb, leb, length, get_or, set}
use Rattle.std.proofs.Common.{sym, ap, ◌∙◌, inr, ⊎_elim, not-suc-le-zero, add-one, arith, length-set, get_or-set_same, get_or-set_other, eq-eqb, ne_eqb}
use Rattle.std.proofs.Math.Logic.{inl}
use Rattle.std.proofs.Math.Bool.{true, and-true, and-false}
use Prim.Native.Nat.{ℕ, zero, suc, ◌+◌, ◌≤◌, ◌<◌}
use Rattle.std.proofs.Math.Decide.{ℕ_discrete}
use Rattle.queue.specs.Order.{count}
use Rattle.rules.specs.Sizes.{task_count, semaphore_count, mutex_count, group_count, channel_count, waits_semaphore, waits_mutex, waits_flags, waits_message}
use Rattle.rules.specs.declared.Task.{Task}
use Rattle.rules.specs.Table.{Table, task_of, queue_of, queue_count, written, works}
use Rattle.rules.specs.Family.{of_state, objects_in, place_of}
use Rattle.rules.specs.Sound.{Each, each, once, Shaped, SoundTask, SoundTasks, SoundQueues}
use Rattle.rules.specs.Afresh.{lt_or_le}
use Rattle.rules.proofs.Tested.{once_most}
use Rattle.rules.specs.Decides.{Decides, equals, at_most, itself, first, last, each_one}
use Rattle.sound.specs.Ready.{worded, worded-ready, worded-shaped}
use Rattle.laws.specs.queues.Rows.{last_queue, numbers}
use Rattle.laws.specs.queues.Stands.{Place, ready, waits, nowhere, place}
use Rattle.sound.specs.Packed.{Packed}
use Rattle.sound.specs.Lines.{struck_out, struck, lined, Line, line-says, struck_at, struck-length}

-- The spots of the first n tasks are right.
pub record Spotted (t : Table) (n : ℕ) (spots : List ℕ) : Type 0 where
  pub size : length spots ≡ task_count
  pub at : Each n (λ i. get_or spots i 0 ≡ place_of (task_of t i))

pub spotted_none : {t : Table} {spots : List ℕ} → length spots ≡ task_count → Spotted t 0 spots
spotted_none e = record { size = e; at = λ i h. absurd (not-suc-le-zero h) }

pub spotted_more : {t : Table} {n : ℕ} {spots : List ℕ} (v : ℕ) → n < task_count → v ≡ place_of (task_of t n) → Spotted t n spots → Spotted t (n + 1) (set spots n v)
spotted_more {t} {n} {spots} v h e s = record { size = length-set spots n v ∙ s.size; at = λ i p. go i p (ℕ_discrete i n) }
  where
    go : (i : ℕ) → i < n + 1 → Dec (i ≡ n) → get_or (set spots n v) i 0 ≡ place_of (task_of t i)
    go i p (yes q) = rw q (get_or-set_same spots n v 0 (omega (arith, s.size)) ∙ e)
    go i p (no q) = get_or-set_other spots n i v 0 q ∙ s.at i (omega arith)

-- What is left of the spots once the queues below q are walked.
unfoldable pub spots_at : List ℕ → Table → ℕ → List ℕ
spots_at spots t zero = spots
spots_at spots t (suc q) = struck (spots_at spots t q) (queue_of t q)

pub spots_next : (spots : List ℕ) (t : Table) (q : ℕ) → spots_at spots t (q + 1) ≡ struck (spots_at spots t q) (queue_of t q)
unfolding spots_at
spots_next spots t q = rw add-one

pub spots_start : (spots : List ℕ) (t : Table) → spots ≡ spots_at spots t 0
unfolding spots_at
spots_start spots t = refl

unfoldable pub is_lined : List ℕ → Table → ℕ → Bool
is_lined spots t q = lined (works t) q 0 (spots_at spots t q) (queue_of t q)

-- No spot is left that is a queue.
abbrev pub is_met : List ℕ → ℕ → Bool
is_met spots i = leb queue_count (get_or spots i 0)

-- ---- one task

-- Once the queues below q are walked: a task stands in its own, if it is struck out, and in no other. It stands c p times in queue p;
-- v is what its spot has become.
record Mark (c : ℕ → ℕ) (place q v : ℕ) : Type 0 where
  met : (p : ℕ) → p < q → c p ≡ once (eqb place p && eqb v struck_out)
  spot : (v ≡ place) ⊎ ((v ≡ struck_out) × (place < q))

once_some : (b : Bool) → 1 ≤ once b → b ≡ true
once_some true h = refl
once_some false h = absurd (omega arith)

elsewhere : (place p : ℕ) (b : Bool) → (place ≡ p → ⊥) → once (eqb place p && b) ≡ 0
elsewhere place p b h = rw (ne_eqb place p h)

unstruck : (b : Bool) (v : ℕ) → (v ≡ struck_out → ⊥) → once (b && eqb v struck_out) ≡ 0
unstruck b v h = rw (ne_eqb v struck_out h, and-false)

once_self : (p : ℕ) → once (eqb p p) ≡ 1
once_self p = rw (eq-eqb p p refl)

not_there : (place p : ℕ) → (place ≡ p → ⊥) → once (eqb place p) ≡ 0
not_there place p h = rw (ne_eqb place p h)

module _ {c : ℕ → ℕ} {place : ℕ} (b : place ≤ queue_count) where
  mark_next : {q v w : ℕ} → q < queue_count → c q ≤ once (eqb v q) → w ≡ cond (eqb (c q) 0) v struck_out → Mark c place q v → Mark c place (suc q) w
  mark_next {q} {v} {w} h m e k = go (ℕ_discrete (c q) 0)
    where
      -- It does not stand here.
      stays : c q ≡ 0 → w ≡ v → Mark c place (suc q) w
      stays z s = record { met = λ p l. met p l (ℕ_discrete p q) (ℕ_discrete place q); spot = ⊎_elim (λ u. inl (s ∙ u)) (λ u. inr (s ∙ u.0, omega arith)) k.spot }
        where
          met : (p : ℕ) → p < suc q → Dec (p ≡ q) → Dec (place ≡ q) → c p ≡ once (eqb place p && eqb w struck_out)
          met p l (no n) d = rw s (k.met p (omega arith))
          met p l (yes y) (no n) = rw y (z ∙ sym (elsewhere place q (eqb w struck_out) n))
          met p l (yes y) (yes n) = rw y (z ∙ sym (unstruck (eqb place q) w (λ x. ⊎_elim (λ u. omega arith) (λ u. omega arith) k.spot)))

      -- It stands here, once.
      struck_now : (c q ≡ 0 → ⊥) → w ≡ struck_out → Mark c place (suc q) w
      struck_now z s = record { met = λ p l. met p l (ℕ_discrete p q); spot = inr (s, omega (arith, own)) }
        where
          here : v ≡ q
          here = equals.holds (once_some (eqb v q) (omega arith))

          own : place ≡ q
          own = ⊎_elim (λ u. omega (arith, here)) (λ u. absurd (omega (arith, here))) k.spot

          met : (p : ℕ) → p < suc q → Dec (p ≡ q) → c p ≡ once (eqb place p && eqb w struck_out)
          met p l (yes y) = rw (y, eq-eqb place q own, eq-eqb w struck_out s) (omega (arith, once_most (eqb v q)))
          met p l (no y) = k.met p (omega arith) ∙ elsewhere place p (eqb v struck_out) (λ x. y (sym x ∙ own)) ∙ sym (elsewhere place p (eqb w struck_out) (λ x. y (sym x ∙ own)))

      go : Dec (c q ≡ 0) → Mark c place (suc q) w
      go (yes z) = stays z (rw (eq-eqb (c q) 0 z) at e)
      go (no z) = struck_now z (rw (ne_eqb (c q) 0 z) at e)

  mark_end : {v : ℕ} → Mark c place queue_count v → queue_count ≤ v → (p : ℕ) → p < queue_count → c p ≡ once (eqb place p)
  mark_end {v} k h p l = ⊎_elim (λ e. away (λ n. omega arith)) (λ e. there e.0) k.spot
    where
      away : (place ≡ p → ⊥) → c p ≡ once (eqb place p)
      away n = k.met p l ∙ elsewhere place p (eqb v struck_out) n ∙ sym (not_there place p n)

      there : v ≡ struck_out → c p ≡ once (eqb place p)
      there e = k.met p l ∙ rw (eq-eqb v struck_out e, and-true)

  -- Where a task stands as it should, its spot is struck out or no queue.
  mark-due : {v : ℕ} → Mark c place queue_count v → ((p : ℕ) → p < queue_count → c p ≡ once (eqb place p)) → queue_count ≤ v
  mark-due {v} k f = ⊎_elim (λ e. go e (lt_or_le place queue_count)) (λ e. omega arith) k.spot
    where
      go : v ≡ place → (place < queue_count) ⊎ (queue_count ≤ place) → queue_count ≤ v
      go e (inl l) = absurd (omega (arith, k.met place l, f place l, unstruck (eqb place place) v (λ x. omega arith), once_self place))
      go e (inr l) = omega arith

  mark_fits : {q v : ℕ} → c q ≡ once (eqb place q) → Mark c place q v → c q ≤ once (eqb v q)
  mark_fits {q} {v} e k = ⊎_elim (λ u. rw u (omega arith)) (λ u. omega (arith, not_there place q (λ x. omega arith))) k.spot

-- ---- all tasks

-- A task whose fields are in range stands in a queue or in none.
pub place_most : {k : Task} → SoundTask k → place_of k ≤ queue_count
place_most {k} r = go (place k)
  where
    go : Place k → place_of k ≤ queue_count
    go (ready a p) = omega arith
    go (waits f a s p) = omega (arith, r.in_range.object, ap objects_in s, numbers a, last_queue a)
    go (nowhere a n p) = omega arith

-- Its object's number is small, whatever it waits for.
pub object_most : {k : Task} → SoundTask k → k.object ≤ queue_count
unfolding of_state
object_most {k} r = go (eqb k.state waits_semaphore) (eqb k.state waits_mutex) (eqb k.state waits_flags) (eqb k.state waits_message) r.in_range.object
  where
    go : (a b c d : Bool) → k.object < cond a semaphore_count (cond b mutex_count (cond c group_count (cond d channel_count 1))) → k.object ≤ queue_count
    go true b c d h = omega arith
    go false true c d h = omega arith
    go false false true d h = omega arith
    go false false false true h = omega arith
    go false false false false h = omega arith

module _ {t : Table} {spots : List ℕ} (shaped : Shaped t) (tasks : SoundTasks t) (spotted : Spotted t task_count spots) (packed : Each queue_count (λ q. Packed (queue_of t q))) where
  abbrev Marked : ℕ → Type 0
  Marked q = Each task_count (λ i. Mark (λ p. count (written i) (queue_of t p)) (place_of (task_of t i)) q (get_or (spots_at spots t q) i 0))

  size : (q : ℕ) → length (spots_at spots t q) ≡ task_count
  unfolding spots_at
  size zero = spotted.size
  size (suc q) = struck-length (spots_at spots t q) (queue_of t q) ∙ size q

  line : (q : ℕ) → q < queue_count → Decides (is_lined spots t q) (Line (works t) q (spots_at spots t q) (queue_of t q))
  unfolding is_lined
  line q h = line-says (works t) q (spots_at spots t q) (queue_of t q) h (size q) (packed q h)

  marks : ((q : ℕ) → q < queue_count → Marked q → is_lined spots t q ≡ true) → (q : ℕ) → q ≤ queue_count → Marked q
  unfolding spots_at is_lined
  marks f zero h i l = record { met = λ p m. absurd (not-suc-le-zero m); spot = inl (spotted.at i l) }
  marks f (suc q) h i l =
      let rest = marks f q (omega arith) in
      let passed = f q h rest in
      mark_next (place_most (tasks i l)) h (((line q h).holds passed).alone i l) (struck_at (works t) q 0 (spots_at spots t q) (queue_of t q) h (size q) (packed q h) passed i l) (rest i l)

  pub queues-say : Decides (each queue_count (is_lined spots t) && each task_count (is_met (spots_at spots t queue_count))) (SoundQueues (worded t))
  unfolding works
  queues-say =
      first (λ s q h. fits s q h (marks (fits s) q (omega arith))) (each_one λ q h. itself) λ passed.
      last (λ s i l. mark-due (place_most (tasks i l)) (marks (fits s) queue_count (omega arith) i l) (λ p h. s.places p h i l)) (each_one λ i l. at_most) λ met.
      record {
        shaped = worded-shaped shaped;
        places = λ q h i l. mark_end (place_most (tasks i l)) (marks (λ q h m. passed q h) queue_count (omega arith) i l) (met i l) q h;
        nothing_else = λ q h. ((line q h).holds (passed q h)).within;
        ordered = λ q h. ((line q h).holds (passed q h)).ordered;
        ready = worded-ready t;
      }
    where
      fits : SoundQueues (worded t) → (q : ℕ) → q < queue_count → Marked q → is_lined spots t q ≡ true
      fits s q h m = (line q h).passes (record { ordered = s.ordered q h; within = s.nothing_else q h; alone = λ i l. mark_fits (place_most (tasks i l)) (s.places q h i l) (m i l) })
