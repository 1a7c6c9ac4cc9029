-- A channel's record in the image: what is read of it, and what numbers that are put into its columns change.
use Rattle.std.specs.Prelude.{◌≡◌, refl, true, List, ℕ, ◌<◌}
use Rattle.std.proofs.Math.Path.{ap}
use Rattle.std.proofs.Common.{◌∙◌, zero-add, arith}
use Rattle.std.proofs.Math.Logic.{inr}
use Rattle.columns.specs.Every.{every}
use Rattle.columns.specs.Views.{alike, stored, record_read, put_row, RowFits, with_row, row_put, row_kept, row-entry}
use Rattle.columns.specs.Runs.{row-run}
use Rattle.columns.specs.Whole.{Fit, row-fit}
use Rattle.rules.specs.Sizes.{channel_count}
use Rattle.rules.specs.Table.{queue_count, channel_of, with_channel}
use Rattle.rules.specs.declared.Channel.{Channel}
use Rattle.rules.specs.Sound.{SoundChannel}
use Rattle.table.specs.kinds.Channel.{made}
use Rattle.table.specs.kinds.Task as task
use Rattle.table.specs.kinds.Semaphore as semaphore
use Rattle.table.specs.kinds.Mutex as mutex
use Rattle.table.specs.kinds.Group as group
use Rattle.table.specs.kinds.Channel as channel
use Rattle.table.specs.Image.{queue_first, tick_column, default_column, depth_column, running_column, ready_column, message_first, layout, Image, view}

-- Its columns have one count.
pub even : alike channel.kind layout ≡ true
unfolding every
even = refl

module _ (l : List ℕ) where
  pub read : (i : ℕ) → i < channel_count → channel_of (view l) i ≡ stored channel.kind layout l i
  unfolding view made
  read i h = record_read channel.kind layout even l i h

-- The numbers vs in its columns from j on, at i.
module _ (l m : List ℕ) (i j : ℕ) (vs : List ℕ) (h : Image l) where
  pub put : i < channel_count → RowFits channel.kind layout j vs → m ≡ put_row channel.kind layout i j vs l → view m ≡ with_channel i (with_row channel.kind j vs (channel_of (view l) i)) (view l)
  unfolding view made
  put q f e = ap view e ∙ λ x.
      record {
        tasks = row_kept channel.kind layout even task.kind (inr (omega arith)) vs j i l (omega arith) q f x;
        semaphores = row_kept channel.kind layout even semaphore.kind (inr (omega arith)) vs j i l (omega arith) q f x;
        mutexes = row_kept channel.kind layout even mutex.kind (inr (omega arith)) vs j i l (omega arith) q f x;
        groups = row_kept channel.kind layout even group.kind (inr (omega arith)) vs j i l (omega arith) q f x;
        channels = row_put channel.kind layout even vs j i l (omega arith) q f x;
        queues = row-run channel.kind layout even queue_first queue_count (λ n p. inr (omega arith)) vs j i l (omega arith) q f x;
        tick = row-entry channel.kind layout even vs j i l (omega arith) q f tick_column 0 (inr (omega arith)) x;
        default_quantum = row-entry channel.kind layout even vs j i l (omega arith) q f default_column 0 (inr (omega arith)) x;
        depth = row-entry channel.kind layout even vs j i l (omega arith) q f depth_column 0 (inr (omega arith)) x;
        running = row-entry channel.kind layout even vs j i l (omega arith) q f running_column 0 (inr (omega arith)) x;
        ready = row-entry channel.kind layout even vs j i l (omega arith) q f ready_column 0 (inr (omega arith)) x;
        messages = row-run channel.kind layout even message_first channel_count (λ n p. inr (omega arith)) vs j i l (omega arith) q f x;
      }

-- ---- what fits its columns

pub record Small (x : Channel) : Type 0 where
  pub used : x.used < 256
  pub capacity : x.capacity < 256
  pub held : x.held < 256

pub small : (x : Channel) → Fit channel.kind layout x → Small x
small x f = record { used = f 0 (omega arith); capacity = f 1 (omega arith); held = f 2 (omega arith) }

pub small_fits : (x : Channel) → Small x → Fit channel.kind layout x
small_fits x r j h = rw (zero-add j) at (row-fit channel.kind layout (channel.row x) 0 ((omega arith, r.used), ((omega arith, r.capacity), ((omega arith, r.held), tt))) j h)

-- What is sound does.
pub fits : (x : Channel) (messages : List ℕ) → SoundChannel x messages → Small x
fits x messages r = omega (arith, r)
