-- Each move keeps all the groups of the standing rules: a task put, a chain that moves behind it, a turn that ends, a wait that ends, an
-- object stored. A call says what its task becomes; all of them go through `becomes_keeps`.
use Rattle.std.specs.Prelude.{◌≡◌, refl, ◌≢◌, true, ℕ, ◌≤◌, ◌<◌, length}
use Rattle.std.proofs.Common.{sym, ap, ◌∙◌, arith}
use Rattle.rules.specs.Sizes.{task_count, mutex_count, plain, waits_semaphore, object_deleted}
use Rattle.rules.specs.Afresh.{here}
use Rattle.rules.specs.Table.{Table, task_of, mutex_of, is_able, written, with_base, with_suspend, with_left, with_outcome, with_message, holder_of}
use Rattle.rules.specs.Walk.{walk_on}
use Rattle.rules.specs.Move.{put, rotate, walk, next, ready, ended}
use Rattle.rules.specs.Sound.{Each, Shaped, SoundWait, Sound, SoundTask, SoundQueues, WorkedOut, SoundObjects, SoundNumbers, SoundWithin}
use Rattle.rules.specs.declared.Task.{Task}
use Rattle.laws.specs.queues.Put.{sized, refilled, put-stored, rotate-stored}
use Rattle.laws.specs.queues.Fields.{rest, frame, framed, put_rest, rotate_rest, walk_rest, ended_rest}
use Rattle.laws.specs.queues.Shapes.{framed-shaped}
use Rattle.laws.specs.queues.Queues.{same_queued, put-queued, walk-queued, rotate-queued}
use Rattle.laws.specs.chains.Graph.{Alike, alike-worked, stored_as, worked-walk}
use Rattle.laws.specs.chains.Priorities.{ended-worked}
use Rattle.laws.specs.keeps.Becomes.{Becomes, becomes_each, as_is, then_walk, put-becomes, rotate-becomes, ended-becomes}
use Rattle.laws.specs.keeps.Records.{NotYet, work_right, left_right, ready_right}
use Rattle.laws.specs.keeps.Running.{MayRunOn, may-run_on, becomes-runs}
use Rattle.laws.specs.queues.Rows.{waiting}
use Rattle.laws.specs.queues.Stands.{Able}
use Rattle.laws.specs.keeps.Objects.{waits_like, become_objects, holder-used}

-- ---- within a call

-- The standing rules but for the choice of the running task, which comes last; of the marks, those of the first n tasks are not due.
pub record Midway (n : ℕ) (t : Table) : Type 0 where
  pub settled : SoundWithin t
  pub not_due : Each n (λ i. NotYet t.tick (task_of t i))
  pub runs : MayRunOn t

abbrev pub BeforeChoice : Table → Type 0
BeforeChoice t = Midway task_count t

pub sound-before : {t : Table} → Sound t → BeforeChoice t
sound-before s = record { settled = s.settled; not_due = s.not_due; runs = may-run_on s.runs }

-- Single numbers alone.
pub framed-settled : {t : Table} → SoundWithin t → (f : Table) → SoundNumbers f → SoundWithin (framed f t)
unfolding next holder_of
framed-settled {t} s f numbers =
    let u = framed f t in
    let o = s.objects in
    record {
      queued = same_queued s.queued refl refl refl (framed-shaped s.queued.shaped f);
      worked = s.worked;
      tasks = s.tasks;
      objects =
          record {
            semaphores = o.semaphores;
            mutexes = o.mutexes;
            groups = o.groups;
            channels = o.channels;
            waits = λ i l. waits_like {u = u} i (task_of t i).state (task_of t i).object refl (o.waits i l);
            holders = o.holders;
          };
      numbers = record { tick = numbers.tick; default_least = numbers.default_least; default_most = numbers.default_most; depth = numbers.depth };
    }

-- The same single numbers.
same_numbers : {t u : Table} → frame u ≡ frame t → SoundNumbers t → SoundNumbers u
same_numbers e n =
    record {
      tick = omega (arith, ap (λ (x : Table). x.tick) e, n.tick);
      default_least = omega (arith, ap (λ (x : Table). x.default_quantum) e, n.default_least);
      default_most = omega (arith, ap (λ (x : Table). x.default_quantum) e, n.default_most);
      depth = omega (arith, ap (λ (x : Table). x.depth) e, n.depth);
    }

-- ---- one task

-- Task i may become k.
pub record MayBecome (n : ℕ) (t : Table) (i : ℕ) (k : Task) : Type 0 where
  pub task : i < task_count
  pub right : SoundTask k
  pub not_due : i < n → NotYet t.tick k
  pub waits : SoundWait t i k.state k.object
  pub holds : (m : ℕ) → m < mutex_count → (mutex_of t m).holder ≡ written i → k.used ≡ 1
  pub runs : t.depth ≢ 0 → t.running ≡ written i → Able (task_of t i) → Able k

-- A task but for the fields that bear on no rule of others; its base does, through the working priorities alone.
abbrev pub seen : Task → Task
seen k = with_base 0 (with_suspend 0 (with_left 0 (with_outcome 0 (with_message 0 k))))

-- It waits for no object.
pub no_wait : (t : Table) (i state object : ℕ) → state < waits_semaphore → SoundWait t i state object
no_wait t i state object l f a e = absurd (omega (arith, waiting a))

-- What all moves go through: one task became k, and queues, working priorities and objects are right.
pub becomes_keeps : {n : ℕ} {t u : Table} {i : ℕ} {k : Task} → Midway n t → MayBecome n t i k → Becomes i k t u → SoundQueues u → WorkedOut u → SoundObjects u → Midway n u
becomes_keeps {n} {t} {u} {i} {k} h m b queued worked objects =
    let s = h.settled in
    record {
      settled =
          record {
            queued = queued;
            worked = worked;
            tasks = λ j l. work_right (becomes_each (λ x. SoundTask) b j (work_right m.right 0 (omega arith)) (work_right (s.tasks j l) 0 (omega arith))) (task_of u j).work ((worked j l).least j l here);
            objects = objects;
            numbers = same_numbers b.frames s.numbers;
          };
      not_due = λ j l. rw (ap (λ (x : Table). x.tick) b.frames) (becomes_each (λ x y. x < n → NotYet t.tick y) b j m.not_due (h.not_due j) l);
      runs = becomes-runs b m.runs h.runs;
    }

module _ {n : ℕ} {t : Table} (h : Midway n t) where
  s : SoundWithin t
  s = h.settled

  -- No object changes.
  one_keeps : {u : Table} {i : ℕ} {k : Task} → MayBecome n t i k → Becomes i k t u → rest u ≡ rest t → SoundQueues u → WorkedOut u → Midway n u
  one_keeps m b rests queued worked = becomes_keeps h m b queued worked (become_objects b rests s.objects m.waits m.holds)

  -- A task is put, and a chain moves behind it.
  pub put-walk_keeps : {i : ℕ} {k : Task} → MayBecome n t i k → (w : ℕ) → WorkedOut (walk w (put i k t)) → Midway n (walk w (put i k t))
  put-walk_keeps {i} {k} m w worked =
      one_keeps m (then_walk (put-becomes m.task s.queued k) w) (walk_rest w (put i k t) ∙ put_rest i k t) (walk-queued w (put-queued i k s.queued)) worked

  -- Where no chain moves.
  pub put_keeps : {i : ℕ} {k : Task} → MayBecome n t i k → WorkedOut (put i k t) → Midway n (put i k t)
  unfolding walk_on
  put_keeps m worked = put-walk_keeps m task_count worked

  module _ {i : ℕ} (l : i < task_count) where
    -- It goes on as it was, but for fields that bear on no rule of others.
    pub may-go_on : (k : Task) → SoundTask k → seen k ≡ seen (task_of t i) → (t.depth ≢ 0 → t.running ≡ written i → Able (task_of t i) → Able k) → MayBecome n t i k
    may-go_on k right e runs =
        let state = ap (λ (x : Task). x.state) e in
        let marked = ap (λ (x : Task). x.marked) e in
        record {
          task = l;
          right = right;
          not_due = λ m x y. h.not_due i m (sym marked ∙ x) (sym (ap (λ (x : Task). x.due) e) ∙ y);
          waits = rw (state, ap (λ (x : Task). x.object) e) (s.objects.waits i l);
          holds = λ m n x. ap (λ (x : Task). x.used) e ∙ holder-used s.objects i m n x;
          runs = runs;
        }

    -- And it is put so.
    pub goes_on_keeps : (k : Task) → SoundTask k → seen k ≡ seen (task_of t i) → k.base ≡ (task_of t i).base → (t.depth ≢ 0 → t.running ≡ written i → Able (task_of t i) → Able k) → Midway n (put i k t)
    goes_on_keeps k right e b runs =
        put_keeps (may-go_on k right e runs)
        (alike-worked (stored_as (put-stored i k t l) (ap (λ (x : Task). x.state) e) (ap (λ (x : Task). x.object) e) b (ap (λ (x : Task). x.work) e)) s.worked)

    -- An able task's turn ends.
    pub rotate_keeps : is_able (task_of t i) ≡ true → Midway n (rotate i t)
    rotate_keeps a =
        one_keeps
        (may-go_on (refilled (task_of t i)) (left_right (s.tasks i l) _ (omega arith)) refl (λ d e a. record { used = a.used; state = a.state; suspend = a.suspend }))
        (rotate-becomes l s.queued)
        (rotate_rest i t)
        (rotate-queued i s.queued l a)
        (alike-worked (stored_as (rotate-stored i t l) refl refl refl refl) s.worked)

-- ---- a wait that ends

-- Task i waits, or is delayed.
pub record Waiter (t : Table) (i : ℕ) : Type 0 where
  pub task : i < task_count
  pub used : (task_of t i).used ≡ 1
  pub state : (task_of t i).state ≢ plain

module _ {n : ℕ} {t : Table} {i : ℕ} (h : Midway n t) (w : Waiter t i) (outcome : ℕ) (o : outcome ≤ object_deleted) where
  -- It may become plain.
  pub may_end : MayBecome n t i (ready outcome (task_of t i))
  may_end =
      record {
        task = w.task;
        right = ready_right (h.settled.tasks i w.task) w.used outcome o;
        not_due = omega arith;
        waits = no_wait t i 0 0 (omega arith);
        holds = λ m l e. w.used;
        runs = λ d e a. record { used = a.used; state = refl; suspend = a.suspend };
      }

  pub ended_keeps : Midway n (ended outcome i t)
  unfolding ended
  ended_keeps =
      let q = h.settled.queued in
      one_keeps h may_end (ended-becomes w.task q outcome) (ended_rest outcome i t) (put-queued i _ (walk-queued _ (put-queued i _ q))) (ended-worked h.settled w.task outcome)

-- ---- an object stored: no task, no queue, no level and no wait changes

pub record Stores (t u : Table) : Type 0 where
  pub tasks : u.tasks ≡ t.tasks
  pub queues : u.queues ≡ t.queues
  pub word : u.ready ≡ t.ready
  pub shaped : Shaped u
  pub frames : frame u ≡ frame t
  pub objects : SoundObjects u

module _ {n : ℕ} {t u : Table} (h : Midway n t) (x : Stores t u) where
  -- A chain moves behind it.
  pub stores_walk_keeps : (w : ℕ) → WorkedOut (walk w u) → Midway n (walk w u)
  stores_walk_keeps w worked =
      let s = h.settled in
      becomes_keeps h (may-go_on h {i = 0} (omega arith) (task_of t 0) (s.tasks 0 (omega arith)) refl (λ d e a. a)) (then_walk (as_is 0 t u x.tasks x.frames) w)
      (walk-queued w (same_queued s.queued x.tasks x.queues x.word x.shaped))
      worked
      (become_objects (then_walk (as_is 0 u u refl refl) w) (walk_rest w u) x.objects (x.objects.waits 0 (omega arith)) (holder-used x.objects 0))

-- Where who waits for whom is the same, no chain moves, whether there is a walk or not.
module _ {n : ℕ} {t u : Table} (h : Midway n t) (x : Stores t u × Alike t u) where
  worked : WorkedOut u
  worked = alike-worked x.1 h.settled.worked

  pub stored_keeps : Midway n u
  unfolding walk_on
  stored_keeps = stores_walk_keeps h x.0 task_count worked

  pub stores_keeps : (w : ℕ) → Midway n (walk w u)
  stores_keeps w = rw (worked-walk w u (ap length x.0.tasks ∙ sized h.settled) worked) stored_keeps
