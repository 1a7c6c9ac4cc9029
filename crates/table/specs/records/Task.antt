-- A task's record in the image: what is read of it, and what numbers that are put into its columns change.
use Rattle.std.specs.Prelude.{◌≡◌, refl, Bool, true, false, cond, eqb, List, ℕ, ◌≤◌, ◌<◌}
use Rattle.std.proofs.Math.Path.{ap}
use Rattle.std.proofs.Common.{◌∙◌, inl, zero-add, arith}
use Rattle.std.proofs.Math.Logic.{inr}
use Rattle.columns.specs.Every.{every}
use Rattle.columns.specs.Views.{alike, stored, record_read, put_row, RowFits, with_row, row_put, row_kept, row-entry}
use Rattle.columns.specs.Runs.{row-run}
use Rattle.columns.specs.Whole.{Fit, row-fit}
use Rattle.rules.specs.declared.Task.{Task}
use Rattle.rules.specs.Table.{queue_count, task_of, with_task}
use Rattle.rules.specs.Family.{of_state, objects_in}
use Rattle.rules.specs.Sizes.{task_count, channel_count, waits_semaphore, waits_mutex, waits_flags, waits_message}
use Rattle.rules.specs.Sound.{TaskInRange, marks_in, asks_in}
use Rattle.table.specs.kinds.Task.{made}
use Rattle.table.specs.kinds.Task as task
use Rattle.table.specs.kinds.Semaphore as semaphore
use Rattle.table.specs.kinds.Mutex as mutex
use Rattle.table.specs.kinds.Group as group
use Rattle.table.specs.kinds.Channel as channel
use Rattle.table.specs.Image.{queue_first, tick_column, default_column, depth_column, running_column, ready_column, message_first, layout, Image, view}
use Rattle.table.specs.Shape.{view-shaped}
use Rattle.table.specs.Settled.{then_stored}

-- Its columns have one count.
pub even : alike task.kind layout ≡ true
unfolding every
even = refl

module _ (l : List ℕ) where
  pub read : (i : ℕ) → i < task_count → task_of (view l) i ≡ stored task.kind layout l i
  unfolding view made
  read i h = record_read task.kind layout even l i h

-- The numbers vs in its columns from j on, at i.
module _ (l m : List ℕ) (i j : ℕ) (vs : List ℕ) (h : Image l) where
  pub put : i < task_count → RowFits task.kind layout j vs → m ≡ put_row task.kind layout i j vs l → view m ≡ with_task i (with_row task.kind j vs (task_of (view l) i)) (view l)
  unfolding view made
  put q f e = ap view e ∙ λ x.
      record {
        tasks = row_put task.kind layout even vs j i l (omega arith) q f x;
        semaphores = row_kept task.kind layout even semaphore.kind (inl (omega arith)) vs j i l (omega arith) q f x;
        mutexes = row_kept task.kind layout even mutex.kind (inl (omega arith)) vs j i l (omega arith) q f x;
        groups = row_kept task.kind layout even group.kind (inl (omega arith)) vs j i l (omega arith) q f x;
        channels = row_kept task.kind layout even channel.kind (inl (omega arith)) vs j i l (omega arith) q f x;
        queues = row-run task.kind layout even queue_first queue_count (λ n p. inr (omega arith)) vs j i l (omega arith) q f x;
        tick = row-entry task.kind layout even vs j i l (omega arith) q f tick_column 0 (inr (omega arith)) x;
        default_quantum = row-entry task.kind layout even vs j i l (omega arith) q f default_column 0 (inr (omega arith)) x;
        depth = row-entry task.kind layout even vs j i l (omega arith) q f depth_column 0 (inr (omega arith)) x;
        running = row-entry task.kind layout even vs j i l (omega arith) q f running_column 0 (inr (omega arith)) x;
        ready = row-entry task.kind layout even vs j i l (omega arith) q f ready_column 0 (inr (omega arith)) x;
        messages = row-run task.kind layout even message_first channel_count (λ n p. inr (omega arith)) vs j i l (omega arith) q f x;
      }

-- Numbers in a task's columns from j on, behind those of another store.
pub put_then : (l m n : List ℕ) (i j : ℕ) (vs : List ℕ) (k : Task) → Image l → Image m → i < task_count → RowFits task.kind layout j vs → view m ≡ with_task i k (view l) → n ≡ put_row task.kind layout i j vs m
    → view n ≡ with_task i (with_row task.kind j vs k) (view l)
put_then l m n i j vs k h hm q f a b =
    put m n i j vs hm q f b ∙ then_stored i (view l) q (view-shaped l h).tasks (with_row task.kind j vs) k (view m) a

-- ---- what fits its columns

pub record Small (k : Task) : Type 0 where
  pub used : k.used < 256
  pub base : k.base < 256
  pub work : k.work < 256
  pub suspend : k.suspend < 256
  pub state : k.state < 256
  pub object : k.object < 256
  pub marked : k.marked < 256
  pub outcome : k.outcome < 256
  pub test : k.test < 256
  pub consume : k.consume < 256
  pub quantum : k.quantum < 65536
  pub left : k.left < 65536
  pub due : k.due < 4294967296
  pub mask : k.mask < 4294967296
  pub message : k.message < 4294967296

pub small : (k : Task) → Fit task.kind layout k → Small k
small k f = record { used = f 0 (omega arith); base = f 1 (omega arith); work = f 2 (omega arith); suspend = f 3 (omega arith); state = f 4 (omega arith); object = f 5 (omega arith); marked = f 6 (omega arith); outcome = f 7 (omega arith); test = f 8 (omega arith); consume = f 9 (omega arith); quantum = f 10 (omega arith); left = f 11 (omega arith); due = f 12 (omega arith); mask = f 13 (omega arith); message = f 14 (omega arith) }

pub small_fits : (k : Task) → Small k → Fit task.kind layout k
small_fits k r j h = rw (zero-add j) at (row-fit task.kind layout (task.row k) 0 ((omega arith, r.used), ((omega arith, r.base), ((omega arith, r.work), ((omega arith, r.suspend), ((omega arith, r.state), ((omega arith, r.object), ((omega arith, r.marked), ((omega arith, r.outcome), ((omega arith, r.test), ((omega arith, r.consume), ((omega arith, r.quantum), ((omega arith, r.left), ((omega arith, r.due), ((omega arith, r.mask), ((omega arith, r.message), tt))))))))))))))) j h)

-- What is in range does.
cond_most : {n x y : ℕ} (b : Bool) → x ≤ n → y ≤ n → cond b x y ≤ n
cond_most true p q = p
cond_most false p q = q

few_objects : (state : ℕ) → objects_in state ≤ 16
unfolding of_state
few_objects state = cond_most (eqb state waits_semaphore) (omega arith) (cond_most (eqb state waits_mutex) (omega arith) (cond_most (eqb state waits_flags) (omega arith) (cond_most (eqb state waits_message) (omega arith) (omega arith))))

few_marks : (marked : ℕ) → marks_in marked ≤ 4294967296
unfolding marks_in
few_marks marked = cond_most (eqb marked 0) (omega arith) (omega arith)

few_asks : (state n : ℕ) → 1 ≤ n → asks_in state n ≤ n
unfolding asks_in
few_asks state n l = cond_most (eqb state waits_flags) (omega arith) l

pub fits : (k : Task) → TaskInRange k → Small k
fits k r = omega (arith, few_objects k.state, few_marks k.marked, few_asks k.state 4294967296 (omega arith), few_asks k.state 4 (omega arith), few_asks k.state 2 (omega arith))
