-- The theory over the table: what is meant by no rings there, and the two walks that stop early.
use Rattle.std.specs.Prelude.{◌≡◌, refl, ◌≢◌, cond, ℕ, ◌-◌, ◌≤◌, ◌<◌, eqb, length}
use Rattle.std.proofs.Common.{sym, ap, ◌∙◌, arith, eq-eqb, ne_eqb}
use Rattle.std.proofs.Math.Path.{fun_ext}
use Rattle.std.proofs.Math.Decide.{ℕ_discrete}
use Rattle.rules.specs.Sizes.{task_count, mutex_count, waits_mutex}
use Rattle.rules.specs.Table.{Table, task_of, holder_of, queue_count, mutex_queue, first_in, with_work}
use Rattle.rules.specs.Family.{of_state, objects_in, place_of}
use Rattle.rules.specs.Move.{put, next, base_of, put_work}
use Rattle.rules.specs.Sound.{Each, SoundQueues, SoundWithin}
use Rattle.rules.specs.declared.Task.{Task}
use Rattle.laws.specs.queues.Put.{put-stored, put_each, task-put, task-put_same}
use Rattle.laws.specs.queues.Fields.{put-size}
use Rattle.laws.specs.queues.Rows.{among-mutexes}
use Rattle.laws.specs.queues.Stands.{waiter-place, waiter_there, first_range, first_there, first_least, empty_none}
use Rattle.laws.specs.queues.Queues.{put-queued}
use Rattle.laws.specs.chains.Graph.{waits_for, next_is, waits_one, waits_none, waits_next, stored-nexts, work-base, work_same}
use Rattle.laws.specs.local.Local.{NoRing, by_firsts, cheap_on, rise_on}
use Rattle.laws.specs.local.First.{Firsts}
use Rattle.laws.specs.local.Cheap.{Store}

-- ---- what is meant

abbrev pub NoRings : Table → Type 0
NoRings t = NoRing task_count (next t)

abbrev pub work_of : Table → ℕ → ℕ
work_of t j = (task_of t j).work

-- The first waiter of mutex m, or no task.
unfoldable pub first_for : Table → ℕ → ℕ
first_for t m = cond (eqb (first_in (mutex_queue m) t) 0) task_count (first_in (mutex_queue m) t - 1)

-- The smallest of the base of i and of the numbers of the first waiters of the mutexes that it holds.
unfoldable pub local_in : Table → ℕ → ℕ
local_in t i = by_firsts task_count mutex_count (holder_of t) (first_for t) (base_of t) (work_of t) i

-- The two walks, over at most k tasks.
abbrev pub rise : (p k i : ℕ) → Table → Table
rise p k i t = rise_on task_count next work_of put_work p k i t

abbrev pub fall : (k i : ℕ) → Table → Table
fall k i t = cheap_on task_count next work_of local_in put_work k i t

-- ---- storing a working priority

abbrev pub Sized : Table → Type 0
Sized t = length t.tasks ≡ task_count

work-waits : (holders : ℕ → ℕ) (p : ℕ) (k : Task) → waits_for holders (with_work p k) ≡ waits_for holders k
unfolding waits_for
work-waits holders p k = refl

pub store : Store task_count next base_of work_of put_work Sized
store =
    record {
      nexts = λ t s p l. fun_ext (stored-nexts (put-stored s (with_work p (task_of t s)) t l) (work-waits (holder_of t) p (task_of t s) ∙ sym (next_is t s)));
      bases = λ t s p l. work-base t s p l;
      there = λ t s p l z. ap (λ (k : Task). k.work) (task-put_same s (with_work p (task_of t s)) t l z);
      others = λ t s p l j d. ap (λ (k : Task). k.work) (task-put s (with_work p (task_of t s)) t j d);
      idle = λ t s l z. work_same t s (work_of t s) l refl;
      fits = λ t s p l z. put-size s (with_work p (task_of t s)) t ∙ z;
    }

-- ---- first waiters

-- The object of a task is in range.
abbrev pub ObjectIn : Task → Type 0
ObjectIn k = k.object < objects_in k.state

-- What a fall needs of the table: the queues in order, and the objects in range.
pub record Ready (t : Table) : Type 0 where
  pub queued : SoundQueues t
  pub objects : Each task_count (λ i. ObjectIn (task_of t i))

pub settled-ready : {t : Table} → SoundWithin t → Ready t
settled-ready h = record { queued = h.queued; objects = λ i l. (h.tasks i l).in_range.object }

-- A record stored, with its object in range.
pub ready-put : {t : Table} (i : ℕ) (k : Task) → ObjectIn k → Ready t → Ready (put i k t)
ready-put {t} i k o r = record { queued = put-queued i k r.queued; objects = λ j l. put_each (λ n x. ObjectIn x) i k t j o (r.objects j l) }

mutex_in : (k : Task) → ObjectIn k → k.state ≡ waits_mutex → k.object < mutex_count
unfolding of_state
mutex_in k o e = rw e at o

-- Who waits for a task waits for a mutex.
next_waits : (t : Table) (j : ℕ) → next t j < task_count → (task_of t j).state ≡ waits_mutex
next_waits t j w = go (ℕ_discrete (task_of t j).state waits_mutex)
  where
    go : Dec ((task_of t j).state ≡ waits_mutex) → (task_of t j).state ≡ waits_mutex
    go (yes e) = e
    go (no d) = absurd (omega (arith, next_is t j, waits_none (holder_of t) (task_of t j) d))

first_some : (t : Table) (m : ℕ) → first_in (mutex_queue m) t ≢ 0 → first_for t m ≡ first_in (mutex_queue m) t - 1
unfolding first_for
first_some t m d = rw (ne_eqb (first_in (mutex_queue m) t) 0 d)

first_not : (t : Table) (m : ℕ) → first_for t m < task_count → first_in (mutex_queue m) t ≢ 0
unfolding first_for
first_not t m l e = omega (arith, (rw (eq-eqb (first_in (mutex_queue m) t) 0 e) at l))

pub firsts : {t : Table} → Ready t → Firsts mutex_count task_count (next t) (holder_of t) (λ j. (task_of t j).object) (first_for t) (work_of t)
firsts {t} r = record { held = held; stands = stands; least = least }
  where
    held : (j : ℕ) → j < task_count → next t j < task_count → ((task_of t j).object < mutex_count) × (next t j ≡ holder_of t (task_of t j).object)
    held j l w = let e = next_waits t j w in (mutex_in (task_of t j) (r.objects j l) e, next_is t j ∙ waits_one (holder_of t) (task_of t j) e)

    stands : (m : ℕ) → m < mutex_count → first_for t m < task_count → next t (first_for t m) ≡ holder_of t m
    stands m l k =
        let d = first_not t m k in
        let v = first_for t m in
        let e = first_some t m d in
        let there : place_of (task_of t v) ≡ mutex_queue m = rw e (first_there r.queued (mutex_queue m) (omega arith) d) in
        waits_next t m v (waiter_there (task_of t v) among-mutexes (r.objects v k) m l there)

    least : (j : ℕ) → j < task_count → next t j < task_count → (first_for t (task_of t j).object < task_count) × (work_of t (first_for t (task_of t j).object) ≤ work_of t j)
    least j l w =
        let m = (task_of t j).object in
        let here = waiter-place (task_of t j) among-mutexes (next_waits t j w) in
        let inside : mutex_queue m < queue_count = omega (arith, (held j l w).0) in
        let d : first_in (mutex_queue m) t ≢ 0 = λ z. empty_none r.queued (mutex_queue m) inside z j l here in
        let e = first_some t m d in
        (omega (arith, e, first_range r.queued (mutex_queue m) inside), rw e (first_least r.queued (mutex_queue m) inside j l here))
