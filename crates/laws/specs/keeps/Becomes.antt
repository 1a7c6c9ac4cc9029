-- Each move changes one task at most, apart from working priorities, queues and objects: what that task becomes.
use Rattle.std.specs.Prelude.{◌≡◌, refl, ◌≢◌, true, ℕ, ◌-◌, ◌<◌, length}
use Rattle.std.proofs.Math.Path.{ap}
use Rattle.std.proofs.Common.{◌∙◌}
use Rattle.std.proofs.Math.Decide.{ℕ_discrete}
use Rattle.rules.specs.Sizes.{task_count, given}
use Rattle.rules.specs.Table.{Table, task_of, is_able, mutex_queue, first_in, with_left}
use Rattle.rules.specs.Decides.{equals}
use Rattle.rules.specs.Move.{put, rotate, walk, next, away, ready, ended}
use Rattle.rules.specs.Time.{caller_of}
use Rattle.rules.specs.Mutex.{with_hold_of, handed, released}
use Rattle.rules.specs.declared.Task.{Task}
use Rattle.rules.specs.Sound.{SoundQueues}
use Rattle.laws.specs.queues.Stands.{able}
use Rattle.laws.specs.queues.Fields.{frame, bare, put_rest, rotate_rest, walk_rest, walk-bare}
use Rattle.laws.specs.queues.Put.{pick, refilled, task-put_same, task-put, rotate-stored}
use Rattle.laws.specs.chains.Graph.{stored-task, stored_other}
use Rattle.laws.specs.queues.Queues.{put-queued, walk-queued}

-- From t to u task i becomes k, apart from working priorities. Queues and objects may differ besides.
pub record Becomes (i : ℕ) (k : Task) (t u : Table) : Type 0 where
  pub itself : bare (task_of u i) ≡ bare k
  pub others : (j : ℕ) → j ≢ i → bare (task_of u j) ≡ bare (task_of t j)
  pub frames : frame u ≡ frame t

-- What is true of k, and of each task before, is true of each task after, where it does not turn on the working priority.
pub becomes_each : (P : ℕ → Task → Type 0) {i : ℕ} {k : Task} {t u : Table} → Becomes i k t u → (j : ℕ) → P i (bare k) → P j (bare (task_of t j)) → P j (bare (task_of u j))
becomes_each P {i} {k} {t} {u} b j new old = go (ℕ_discrete j i)
  where
    go : Dec (j ≡ i) → P j (bare (task_of u j))
    go (yes e) = rw e (rw b.itself new)
    go (no d) = rw (b.others j d) old

-- ---- moves

-- No task changes.
pub as_is : (i : ℕ) (t u : Table) → u.tasks ≡ t.tasks → frame u ≡ frame t → Becomes i (task_of t i) t u
as_is i t u e f = record { itself = rw e; others = λ j d. rw e; frames = f }

module _ {i : ℕ} {x : Task} {t u : Table} (b : Becomes i x t u) where
  -- A chain moves.
  pub then_walk : (s : ℕ) → Becomes i x t (walk s u)
  then_walk s = record { itself = walk-bare s u i ∙ b.itself; others = λ j d. walk-bare s u j ∙ b.others j d; frames = ap frame (walk_rest s u) ∙ b.frames }

  -- An object is stored.
  pub then_stored : (v : Table) → v.tasks ≡ u.tasks → frame v ≡ frame u → Becomes i x t v
  then_stored v e f = record { itself = rw e b.itself; others = λ j d. rw e (b.others j d); frames = f ∙ b.frames }

  -- Task i becomes something else.
  pub then_put : (k : Task) → i < task_count → length u.tasks ≡ task_count → Becomes i k t (put i k u)
  then_put k l z =
      record {
        itself = ap bare (task-put_same i k u l z);
        others = λ j d. ap bare (task-put i k u j d) ∙ b.others j d;
        frames = ap frame (put_rest i k u) ∙ b.frames;
      }

module _ {i : ℕ} {t : Table} (l : i < task_count) (q : SoundQueues t) where
  pub put-becomes : (k : Task) → Becomes i k t (put i k t)
  put-becomes k = then_put (as_is i t t refl refl) k l q.shaped.tasks

  pub rotate-becomes : Becomes i (refilled (task_of t i)) t (rotate i t)
  rotate-becomes =
      let s = rotate-stored i t l in
      record {
        itself = ap bare (stored-task s (rw q.shaped.tasks l));
        others = λ j d. ap bare (stored_other s j d);
        frames = ap frame (rotate_rest i t);
      }

  -- A wait that ends: it leaves its queue, the chain moves, it becomes plain.
  pub ended-becomes : (outcome : ℕ) → Becomes i (ready outcome (task_of t i)) t (ended outcome i t)
  unfolding ended
  ended-becomes outcome =
      let left : Becomes i (away (task_of t i)) t (walk (next t i) (put i (away (task_of t i)) t)) = then_walk (put-becomes (away (task_of t i))) (next t i) in
      let last = then_put left (ready outcome (task_of (walk (next t i) (put i (away (task_of t i)) t)) i)) l (walk-queued (next t i) (put-queued i (away (task_of t i)) q)).shaped.tasks in
      record { itself = last.itself ∙ ap (λ (x : Task). bare (ready outcome x)) left.itself; others = last.others; frames = last.frames }

-- ---- the running task

abbrev pub caller : Table → Task
caller t = task_of t (caller_of t)

pub caller-used : (t : Table) → is_able (caller t) ≡ true → (caller t).used ≡ 1
caller-used t a = ((able (caller t)).holds a).used

-- The mutex that it releases is free, and it moves.
abbrev pub freed : ℕ → Table → Table
freed m t = walk (caller_of t) (with_hold_of m 0 0 t)

-- Then the task written w, the first waiter, holds it.
abbrev pub given_to : ℕ → ℕ → Table → Table
given_to m w t = put (w - 1) (ready given (task_of t (w - 1))) (with_hold_of m w 1 t)

pub released_one : (P : Table → Type 0) (m : ℕ) (t : Table)
    → (first_in (mutex_queue m) (freed m t) ≡ 0 → P (freed m t))
    → (first_in (mutex_queue m) (freed m t) ≢ 0 → P (given_to m (first_in (mutex_queue m) (freed m t)) (freed m t)))
    → P (released m t)
unfolding released handed
released_one P m t free goes = pick P equals free goes

-- One tick less is left to it.
abbrev pub shorter : Table → Table
shorter t = put (caller_of t) (with_left ((caller t).left - 1) (caller t)) t
