-- The single numbers: what is read, and what one that is put changes.
use Rattle.std.specs.Prelude.{◌≡◌, refl, ◌⊎◌, true, cond, List, [], ◌∷◌, ℕ, ◌+◌, ◌*◌, ◌≤◌, ◌<◌, eqb}
use Rattle.std.proofs.Math.Path.{sym, ap}
use Rattle.std.proofs.Common.{◌∙◌, add-zero, arith, eq-eqb, ne_eqb}
use Rattle.std.proofs.Math.Logic.{inl, inr}
use Rattle.std.proofs.Math.Decide.{ℕ_discrete, dec_lt}
use Rattle.columns.specs.Columns.{word_at, offset, columns, entry}
use Rattle.columns.specs.Every.{every}
use Rattle.columns.specs.Laws.{entry_read}
use Rattle.columns.specs.Rows.{Kind, records, single}
use Rattle.columns.specs.Runs.{run_of, row-run}
use Rattle.columns.specs.Views.{alike, put_row, RowFits, row_kept, row-entry, put_same, even_at}
use Rattle.rules.specs.Sizes.{channel_count}
use Rattle.rules.specs.Table.{queue_count, with_tick, with_default_quantum, with_depth, with_running, with_ready}
use Rattle.table.specs.kinds.Task as task
use Rattle.table.specs.kinds.Semaphore as semaphore
use Rattle.table.specs.kinds.Mutex as mutex
use Rattle.table.specs.kinds.Group as group
use Rattle.table.specs.kinds.Channel as channel
use Rattle.table.specs.Image.{queue_first, tick_column, default_column, depth_column, running_column, ready_column, message_first, layout, Image, view}

-- ---- what is read

module _ (l : List ℕ) where
  pub view-tick : word_at 4 (offset layout tick_column + 4 * 0) l ≡ (view l).tick
  unfolding view
  view-tick = sym (entry_read layout tick_column 0 l (omega arith))

  pub view_default : word_at 2 (offset layout default_column + 2 * 0) l ≡ (view l).default_quantum
  unfolding view
  view_default = sym (entry_read layout default_column 0 l (omega arith))

  pub view-depth : word_at 1 (offset layout depth_column + 1 * 0) l ≡ (view l).depth
  unfolding view
  view-depth = sym (entry_read layout depth_column 0 l (omega arith))

  pub view-running : word_at 1 (offset layout running_column + 1 * 0) l ≡ (view l).running
  unfolding view
  view-running = sym (entry_read layout running_column 0 l (omega arith))

  pub view-ready : word_at 8 (offset layout ready_column + 8 * 0) l ≡ (view l).ready
  unfolding view
  view-ready = sym (entry_read layout ready_column 0 l (omega arith))

-- ---- what is put, in column k

tick-even : alike (single tick_column) layout ≡ true
unfolding every single
tick-even = refl

default_even : alike (single default_column) layout ≡ true
unfolding every single
default_even = refl

depth-even : alike (single depth_column) layout ≡ true
unfolding every single
depth-even = refl

running-even : alike (single running_column) layout ≡ true
unfolding every single
running-even = refl

ready-even : alike (single ready_column) layout ≡ true
unfolding every single
ready-even = refl

-- The number old, or v where it stands in column k.
abbrev either : (k v j old : ℕ) → ℕ
either k v j old = cond (eqb k j) v old

module _ (k v : ℕ) (l : List ℕ) (h : Image l) (even : alike (single k) layout ≡ true) (b : (queue_first + queue_count ≤ k) × (k < message_first)) (f : RowFits (single k) layout 0 (v ∷ [])) where
  abbrev put : List (List ℕ)
  put = columns layout (put_row (single k) layout 0 0 (v ∷ []) l)

  others_kept : {A : Type 0} (K : Kind A) → K.first + K.wide ≤ k → records K put ≡ records K (columns layout l)
  unfolding single
  others_kept K o = row_kept (single k) layout even K (inr o) (v ∷ []) 0 0 l (omega arith) (omega arith) f

  queues_kept : run_of queue_first queue_count put ≡ run_of queue_first queue_count (columns layout l)
  unfolding single
  queues_kept = row-run (single k) layout even queue_first queue_count (λ n p. inl (omega arith)) (v ∷ []) 0 0 l (omega arith) (omega arith) f

  messages_kept : run_of message_first channel_count put ≡ run_of message_first channel_count (columns layout l)
  unfolding single
  messages_kept = row-run (single k) layout even message_first channel_count (λ n p. inr (omega arith)) (v ∷ []) 0 0 l (omega arith) (omega arith) f

  number_kept : (m : ℕ) → (m < k) ⊎ (k + 1 ≤ m) → entry put m 0 ≡ entry (columns layout l) m 0
  unfolding single
  number_kept m o = row-entry (single k) layout even (v ∷ []) 0 0 l (omega arith) (omega arith) f m 0 o

  number_put : entry put (k + 0) 0 ≡ v
  unfolding single
  number_put = put_same layout (k + 0) 0 v l (omega arith) (even_at (single k) layout even 0 0 (omega arith) (omega arith)) f.0.1

  number_now : (m : ℕ) → entry put m 0 ≡ either k v m (entry (columns layout l) m 0)
  number_now m = go (ℕ_discrete k m)
    where
      go : Dec (k ≡ m) → entry put m 0 ≡ either k v m (entry (columns layout l) m 0)
      go (yes e) = rw (eq-eqb k m e) (ap (λ (j : ℕ). entry put j 0) (sym e ∙ sym (add-zero k)) ∙ number_put)
      go (no d) = rw (ne_eqb k m d) (number_kept m (apart (dec_lt m k)))
        where
          apart : Dec (m < k) → (m < k) ⊎ (k + 1 ≤ m)
          apart (yes q) = inl q
          apart (no q) = inr (omega arith)

  -- The number of column k becomes v, and nothing else changes.
  single-put : (m : List ℕ) → m ≡ put_row (single k) layout 0 0 (v ∷ []) l
      → view m ≡ with_tick (either k v tick_column (view l).tick) (with_default_quantum (either k v default_column (view l).default_quantum) (with_depth (either k v depth_column (view l).depth) (with_running (either k v running_column (view l).running) (with_ready (either k v ready_column (view l).ready) (view l)))))
  unfolding view
  single-put m e = ap view e ∙ λ x.
      record {
        tasks = others_kept task.kind (omega arith) x;
        semaphores = others_kept semaphore.kind (omega arith) x;
        mutexes = others_kept mutex.kind (omega arith) x;
        groups = others_kept group.kind (omega arith) x;
        channels = others_kept channel.kind (omega arith) x;
        queues = queues_kept x;
        tick = number_now tick_column x;
        default_quantum = number_now default_column x;
        depth = number_now depth_column x;
        running = number_now running_column x;
        ready = number_now ready_column x;
        messages = messages_kept x;
      }

module _ (l m : List ℕ) (v : ℕ) (h : Image l) where
  pub tick-put : RowFits (single tick_column) layout 0 (v ∷ []) → m ≡ put_row (single tick_column) layout 0 0 (v ∷ []) l → view m ≡ with_tick v (view l)
  tick-put f = single-put tick_column v l h tick-even (omega arith) f m

  pub default_put : RowFits (single default_column) layout 0 (v ∷ []) → m ≡ put_row (single default_column) layout 0 0 (v ∷ []) l → view m ≡ with_default_quantum v (view l)
  default_put f = single-put default_column v l h default_even (omega arith) f m

  pub depth-put : RowFits (single depth_column) layout 0 (v ∷ []) → m ≡ put_row (single depth_column) layout 0 0 (v ∷ []) l → view m ≡ with_depth v (view l)
  depth-put f = single-put depth_column v l h depth-even (omega arith) f m

  pub running-put : RowFits (single running_column) layout 0 (v ∷ []) → m ≡ put_row (single running_column) layout 0 0 (v ∷ []) l → view m ≡ with_running v (view l)
  running-put f = single-put running_column v l h running-even (omega arith) f m

  pub ready-put : RowFits (single ready_column) layout 0 (v ∷ []) → m ≡ put_row (single ready_column) layout 0 0 (v ∷ []) l → view m ≡ with_ready v (view l)
  ready-put f = single-put ready_column v l h ready-even (omega arith) f m
