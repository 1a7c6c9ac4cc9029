-- A mutex's record in the image: what is read of it, and what numbers that are put into its columns change.
use Rattle.std.specs.Prelude.{◌≡◌, refl, true, List, ℕ, ◌<◌}
use Rattle.std.proofs.Math.Path.{ap}
use Rattle.std.proofs.Common.{◌∙◌, inl, zero-add, arith}
use Rattle.std.proofs.Math.Logic.{inr}
use Rattle.columns.specs.Every.{every}
use Rattle.columns.specs.Views.{alike, stored, record_read, put_row, RowFits, with_row, row_put, row_kept, row-entry}
use Rattle.columns.specs.Runs.{row-run}
use Rattle.columns.specs.Whole.{Fit, row-fit}
use Rattle.rules.specs.Sizes.{mutex_count, channel_count}
use Rattle.rules.specs.Table.{queue_count, mutex_of, with_mutex}
use Rattle.rules.specs.declared.Mutex.{Mutex}
use Rattle.rules.specs.Sound.{SoundMutex}
use Rattle.table.specs.kinds.Mutex.{made}
use Rattle.table.specs.kinds.Task as task
use Rattle.table.specs.kinds.Semaphore as semaphore
use Rattle.table.specs.kinds.Mutex as mutex
use Rattle.table.specs.kinds.Group as group
use Rattle.table.specs.kinds.Channel as channel
use Rattle.table.specs.Image.{queue_first, tick_column, default_column, depth_column, running_column, ready_column, message_first, layout, Image, view}

-- Its columns have one count.
pub even : alike mutex.kind layout ≡ true
unfolding every
even = refl

module _ (l : List ℕ) where
  pub read : (i : ℕ) → i < mutex_count → mutex_of (view l) i ≡ stored mutex.kind layout l i
  unfolding view made
  read i h = record_read mutex.kind layout even l i h

-- The numbers vs in its columns from j on, at i.
module _ (l m : List ℕ) (i j : ℕ) (vs : List ℕ) (h : Image l) where
  pub put : i < mutex_count → RowFits mutex.kind layout j vs → m ≡ put_row mutex.kind layout i j vs l → view m ≡ with_mutex i (with_row mutex.kind j vs (mutex_of (view l) i)) (view l)
  unfolding view made
  put q f e = ap view e ∙ λ x.
      record {
        tasks = row_kept mutex.kind layout even task.kind (inr (omega arith)) vs j i l (omega arith) q f x;
        semaphores = row_kept mutex.kind layout even semaphore.kind (inr (omega arith)) vs j i l (omega arith) q f x;
        mutexes = row_put mutex.kind layout even vs j i l (omega arith) q f x;
        groups = row_kept mutex.kind layout even group.kind (inl (omega arith)) vs j i l (omega arith) q f x;
        channels = row_kept mutex.kind layout even channel.kind (inl (omega arith)) vs j i l (omega arith) q f x;
        queues = row-run mutex.kind layout even queue_first queue_count (λ n p. inr (omega arith)) vs j i l (omega arith) q f x;
        tick = row-entry mutex.kind layout even vs j i l (omega arith) q f tick_column 0 (inr (omega arith)) x;
        default_quantum = row-entry mutex.kind layout even vs j i l (omega arith) q f default_column 0 (inr (omega arith)) x;
        depth = row-entry mutex.kind layout even vs j i l (omega arith) q f depth_column 0 (inr (omega arith)) x;
        running = row-entry mutex.kind layout even vs j i l (omega arith) q f running_column 0 (inr (omega arith)) x;
        ready = row-entry mutex.kind layout even vs j i l (omega arith) q f ready_column 0 (inr (omega arith)) x;
        messages = row-run mutex.kind layout even message_first channel_count (λ n p. inr (omega arith)) vs j i l (omega arith) q f x;
      }

-- ---- what fits its columns

pub record Small (x : Mutex) : Type 0 where
  pub used : x.used < 256
  pub holder : x.holder < 256
  pub nesting : x.nesting < 256

pub small : (x : Mutex) → Fit mutex.kind layout x → Small x
small x f = record { used = f 0 (omega arith); holder = f 1 (omega arith); nesting = f 2 (omega arith) }

pub small_fits : (x : Mutex) → Small x → Fit mutex.kind layout x
small_fits x r j h = rw (zero-add j) at (row-fit mutex.kind layout (mutex.row x) 0 ((omega arith, r.used), ((omega arith, r.holder), ((omega arith, r.nesting), tt))) j h)

-- What is sound does.
pub fits : (x : Mutex) → SoundMutex x → Small x
fits x r = omega (arith, r)
