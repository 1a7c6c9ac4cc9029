-- Where a task stands, and what the slots of a queue say of the tasks.
use Rattle.std.specs.Prelude.{◌≡◌, ◌⊎◌, ◌≢◌, Bool, List, ℕ, ◌-◌, ◌≤◌, ◌<◌, eqb, length, get_or}
use Rattle.std.proofs.Math.Path.{refl}
use Rattle.std.proofs.Common.{sym, ap, subst, ◌∙◌, inl, inr, ⊎_elim, arith, eqb-true, eq-eqb, ne_eqb}
use Rattle.std.proofs.Math.Bool.{true, false}
use Rattle.std.proofs.Math.Decide.{ℕ_discrete}
use Rattle.std.proofs.Math.ListN.{get_or-eq_default}
use Rattle.queue.specs.Slots.{key_of}
use Rattle.queue.specs.Order.{All, none, more, Ordered, empty, front, count}
use Rattle.queue.specs.Keeps.{key_own}
use Rattle.queue.specs.Stands.{one_other, stands_at, stands_some}
use Rattle.rules.specs.Sizes.{task_count, plain, delayed}
use Rattle.rules.specs.Table.{Table, task_of, queue_of, queue_count, able_queue, slot_in, first_in, works, is_able, written, no_task}
use Rattle.rules.specs.Afresh.{lt_or_le}
use Rattle.rules.specs.Decides.{Decides, equals, first, last}
use Rattle.rules.specs.Family.{Family, waiters_of, families, Among, of_state, objects_in, place_of}
use Rattle.rules.specs.Sound.{Empty, once, SoundTasks, MayWait, SoundObjects, SoundQueues, SoundTask}
use Rattle.rules.specs.declared.Task.{Task}
use Rattle.laws.specs.queues.Rows.{Found, one, nobody, found, waiting, first_queue, last_queue, by_state, numbers, one_queue}
use Rattle.laws.specs.queues.Put.{work_at}

-- ---- able tasks, and where a task may stand

pub record Able (k : Task) : Type 0 where
  pub used : k.used ≡ 1
  pub state : k.state ≡ plain
  pub suspend : k.suspend ≡ 0

pub able : (k : Task) → Decides (is_able k) (Able k)
unfolding is_able
able k = first (λ a. a.used) equals λ used. first (λ a. a.state) equals λ state. last (λ a. a.suspend) equals λ suspend. record { used = used; state = state; suspend = suspend }

-- A free number stands in no queue.
pub free-place : place_of no_task ≡ queue_count
unfolding place_of of_state is_able
free-place = refl

pub data Place (k : Task) : Type 0 where
  ready : is_able k ≡ true → place_of k ≡ able_queue → Place k
  waits : (f : Family) → Among f families → k.state ≡ f.state → place_of k ≡ waiters_of f k.object → Place k
  nowhere : is_able k ≡ false → ((f : Family) → Among f families → k.state ≢ f.state) → place_of k ≡ queue_count → Place k

module _ (k : Task) where
  -- Whoever is not plain stands where the state says.
  state-place : k.state ≢ plain → place_of k ≡ of_state families k.state (λ f. waiters_of f k.object) queue_count
  unfolding place_of
  state-place n = rw (unable (is_able k) refl)
    where
      unable : (b : Bool) → is_able k ≡ b → is_able k ≡ false
      unable true a = absurd (n ((able k).holds a).state)
      unable false a = a

  -- Who waits for an object stands in its queue,
  pub waiter-place : {f : Family} → Among f families → k.state ≡ f.state → place_of k ≡ waiters_of f k.object
  waiter-place {f} a e = state-place (λ z. omega (arith, waiting a)) ∙ rw e (by_state a (λ g. waiters_of g k.object) queue_count)

  pub place : Place k
  unfolding place_of
  place = go (is_able k) refl (found k.state)
    where
      go : (b : Bool) → is_able k ≡ b → Found families k.state → Place k
      go true e x = ready e (rw e)
      go false e (one f a s) = waits f a s (waiter-place a s)
      go false e (nobody d z) = nowhere e d (rw e (z _ _))

  -- Who is able stands in the able queue, and who stands there is able.
  pub able-place : is_able k ≡ eqb (place_of k) able_queue
  able-place = go place
    where
      go : Place k → is_able k ≡ eqb (place_of k) able_queue
      go (ready a p) = a ∙ sym (eq-eqb _ _ p)
      go (waits f a s p) = not_able (is_able k) refl ∙ sym (ne_eqb (place_of k) able_queue (λ e. omega (arith, first_queue a)))
        where
          not_able : (b : Bool) → is_able k ≡ b → is_able k ≡ false
          not_able true e = absurd (omega (arith, waiting a, ((able k).holds e).state))
          not_able false e = e
      go (nowhere a d p) = a ∙ sym (ne_eqb (place_of k) able_queue (λ e. omega arith))

  pub able-stands : is_able k ≡ true → place_of k ≡ able_queue
  able-stands a = eqb-true _ _ (sym able-place ∙ a)

  pub able_there : place_of k ≡ able_queue → is_able k ≡ true
  able_there e = able-place ∙ eq-eqb _ _ e

  -- who is delayed stands in none,
  pub delayed-place : k.state ≡ delayed → place_of k ≡ queue_count
  unfolding of_state
  delayed-place e = state-place (omega arith) ∙ rw e

  -- and who stands in the queue of an object waits for it.
  pub waits_there : place_of k < queue_count → place_of k ≢ able_queue → k.state ≢ plain
  waits_there l d = go place
    where
      go : Place k → k.state ≢ plain
      go (ready a p) = absurd (d p)
      go (waits f a s p) = λ z. omega (arith, waiting a)
      go (nowhere a n p) = absurd (omega arith)

  pub waiter_there : {f : Family} → Among f families → k.object < objects_in k.state → (o : ℕ) → o < f.count → place_of k ≡ waiters_of f o → (k.state ≡ f.state) × (k.object ≡ o)
  waiter_there {f} a r o l e = go place
    where
      go : Place k → (k.state ≡ f.state) × (k.object ≡ o)
      go (ready b p) = absurd (omega (arith, first_queue a))
      go (waits g b s p) =
          let n : k.object < g.count = omega (arith, r, ap objects_in s, numbers b) in
          let (x, y) = one_queue b a k.object o n l (sym p ∙ e) in
          (s ∙ x, y)
      go (nowhere b n p) = absurd (omega (arith, last_queue a))

-- A task that waits for no object is able or stands nowhere.
pub no_waiter : (k : Task) → k.state ≤ delayed → (place_of k ≡ able_queue) ⊎ (place_of k ≡ queue_count)
no_waiter k d = go (place k)
  where
    go : Place k → (place_of k ≡ able_queue) ⊎ (place_of k ≡ queue_count)
    go (ready x p) = inl p
    go (waits f a s p) = absurd (omega (arith, waiting a))
    go (nowhere x y p) = inr p

-- A task that is not plain is not able.
pub not_able : (k : Task) → k.state ≢ plain → place_of k ≢ able_queue
not_able k d e = d ((able k).holds (able_there k e)).state

-- Who stands in a queue is in use.
pub placed-used : {k : Task} → SoundTask k → place_of k < queue_count → k.used ≡ 1
unfolding place_of of_state is_able
placed-used {k} r l = go (ℕ_discrete k.used 0)
  where
    go : Dec (k.used ≡ 0) → k.used ≡ 1
    go (yes z) = absurd (omega (arith, ap place_of (r.free_zero z)))
    go (no d) = omega (arith, r.in_range.used)

-- ---- slots

-- What holds of each slot holds of what is counted there.
count_all : {P : ℕ → Type 0} {l : List ℕ} (u : ℕ) → All P l → 1 ≤ count u l → P u
unfolding count
count_all u none h = absurd (omega arith)
count_all {P} u (more {x} {xs} p a) h = go (ℕ_discrete x u) (λ r. count_all u a r)
  where
    go : Dec (x ≡ u) → (1 ≤ count u xs → P u) → P u
    go (yes e) r = subst P e p
    go (no d) r = r (omega (arith, one_other u x d))

-- Where u stands, the front slot holds an id, of no greater key.
front_least : {keys l : List ℕ} (u : ℕ) → u ≢ 0 → Ordered keys l → 1 ≤ count u l → (get_or l 0 0 ≢ 0) × (key_of keys (get_or l 0 0) ≤ key_of keys u)
unfolding count
front_least u z empty h = absurd (omega arith)
front_least {keys} u z (front {x} {xs} a o) h = go (ℕ_discrete x u)
  where
    go : Dec (x ≡ u) → (x ≢ 0) × (key_of keys x ≤ key_of keys u)
    go (yes e) = rw e (z, omega arith)
    go (no d) = ⊎_elim (λ e. absurd (z e)) (λ p. p) (count_all u a (omega (arith, one_other u x d)))

module _ {t : Table} (s : SoundQueues t) (q : ℕ) (l : q < queue_count) where
  module _ (k : ℕ) where
    -- Behind the last slot none is written.
    slot-stands : slot_in q k t ≢ 0 → 1 ≤ count (slot_in q k t) (queue_of t q)
    slot-stands d = ⊎_elim (λ m. stands_some (slot_in q k t) (queue_of t q) (stands_at (slot_in q k t) k (queue_of t q) m refl)) (λ m. absurd (d (get_or-eq_default (queue_of t q) 0 m))) (lt_or_le k (length (queue_of t q)))

    -- A slot holds a task or none,
    pub slot-range : slot_in q k t ≤ task_count
    slot-range = go (ℕ_discrete (slot_in q k t) 0)
      where
        go : Dec (slot_in q k t ≡ 0) → slot_in q k t ≤ task_count
        go (yes e) = omega arith
        go (no n) = count_all (slot_in q k t) (s.nothing_else q l) (slot-stands n)

    -- and that task stands there.
    pub slot_there : slot_in q k t ≢ 0 → place_of (task_of t (slot_in q k t - 1)) ≡ q
    slot_there d = go (ℕ_discrete (place_of (task_of t i)) q)
      where
        i : ℕ
        i = slot_in q k t - 1

        go : Dec (place_of (task_of t i) ≡ q) → place_of (task_of t i) ≡ q
        go (yes e) = e
        go (no n) =
            let w : written i ≡ slot_in q k t = omega arith in
            let z : count (written i) (queue_of t q) ≡ 0 = s.places q l i (omega (arith, slot-range)) ∙ ap once (ne_eqb _ _ n) in
            absurd (omega (arith, slot-stands d, ap (λ (v : ℕ). count v (queue_of t q)) w))

  pub first_range : first_in q t ≤ task_count
  first_range = slot-range 0

  pub first_there : first_in q t ≢ 0 → place_of (task_of t (first_in q t - 1)) ≡ q
  first_there = slot_there 0

  -- No task that stands there is more urgent.
  before : (j : ℕ) → j < task_count → place_of (task_of t j) ≡ q → (first_in q t ≢ 0) × (key_of (works t) (first_in q t) ≤ key_of (works t) (written j))
  before j m e = front_least (written j) (λ z. omega arith) (s.ordered q l) (omega (arith, s.places q l j m, ap once (eq-eqb _ _ e)))

  pub first_least : (j : ℕ) → j < task_count → place_of (task_of t j) ≡ q → (task_of t (first_in q t - 1)).work ≤ (task_of t j).work
  first_least j m e = omega (arith, (before j m e).1, work_at t (first_in q t - 1), key_own (works t) j, work_at t j)

  -- No task stands in an empty queue.
  pub empty_none : Empty q t → (j : ℕ) → j < task_count → place_of (task_of t j) ≢ q
  empty_none z j m e = (before j m e).0 z

  -- A queue where no task stands is empty.
  pub none_empty : ((j : ℕ) → j < task_count → place_of (task_of t j) ≢ q) → Empty q t
  none_empty out = go (ℕ_discrete (first_in q t) 0)
    where
      go : Dec (Empty q t) → Empty q t
      go (yes e) = e
      go (no n) = absurd (out (first_in q t - 1) (omega (arith, first_range)) (first_there n))

-- ---- the queue of an object

module _ {f : Family} (a : Among f families) {t : Table} (q : SoundQueues t) (o : ℕ) (l : o < f.count) where
  -- Where an object's queue is empty, nobody waits for it.
  pub unwaited : Empty (waiters_of f o) t → (j : ℕ) → j < task_count → (task_of t j).state ≡ f.state → (task_of t j).object ≢ o
  unwaited z j m e x = empty_none q (waiters_of f o) (omega (arith, last_queue a)) z j m (waiter-place (task_of t j) a e ∙ ap (waiters_of f) x)

  -- "a free number has .. no queue"; what has something to take has no waiter.
  pub no_queue : SoundTasks t → SoundObjects t → (f.used t o ≢ 1) ⊎ (f.offers t o ≡ true) → Empty (waiters_of f o) t
  no_queue tasks objects why =
      none_empty q (waiters_of f o) (omega (arith, last_queue a))
      (λ j m p.
      let (e, x) = waiter_there (task_of t j) a (tasks j m).in_range.object o l p in
      let w : MayWait f t j o = subst (MayWait f t j) x (objects.waits j m f a e) in
      ⊎_elim (λ n. n w.used) w.nothing why)
