-- The queues: a row of slots for each, read, lent, and put back.
use Rattle.std.specs.Prelude.{◌≡◌, true, ℕ, ◌+◌, ◌-◌, ◌*◌, ◌<◌, length, take, drop}
use Rattle.std.proofs.Math.Path.{refl, ap}
use Rattle.std.proofs.Common.{◌∙◌, inr, arith, length-take, length-drop, get_or-take, get_or-drop}
use mathlib.Core.List.{List, []}
use Rattle.std.proofs.Math.ListN.{get_or, set}
use borrow.Rule.Slice.PartMut.{put_mid}
use Rattle.columns.specs.Columns.{splice, offset, columns}
use Rattle.columns.specs.Every.{every}
use Rattle.columns.specs.Rows.{tabulate_at}
use Rattle.columns.specs.Runs.{all_wide, all_long, run_of, run_at, put-lent, run-put, run-set, run_kept, run-entry, run-apart}
use Rattle.columns.specs.Views.{columns-long}
use Rattle.rules.specs.Sizes.{channel_count}
use Rattle.rules.specs.Table.{queue_of, queue_count, with_queue}
use Rattle.table.specs.kinds.Task as task
use Rattle.table.specs.kinds.Semaphore as semaphore
use Rattle.table.specs.kinds.Mutex as mutex
use Rattle.table.specs.kinds.Group as group
use Rattle.table.specs.kinds.Channel as channel
use Rattle.table.specs.Image.{slot_count, queue_first, tick_column, default_column, depth_column, running_column, ready_column, message_first, layout, Image, view}

-- ---- the rows are bytes, and alike

pub queue-wide : all_wide queue_first queue_count 1 layout ≡ true
unfolding every
queue-wide = refl

pub queue-even : all_long queue_first queue_count slot_count layout ≡ true
unfolding every
queue-even = refl

-- ---- what is read

-- Where queue q stands.
abbrev pub queue_at : ℕ → ℕ
queue_at q = offset layout queue_first + slot_count * q

module _ (l : List ℕ) (h : Image l) (q : ℕ) (p : q < queue_count) where
  pub view-queue : queue_of (view l) q ≡ take slot_count (drop (queue_at q) l)
  unfolding view run_of
  view-queue =
      tabulate_at queue_count (λ j. get_or (columns layout l) (queue_first + j) []) q [] p
      ∙ run_at queue_first queue_count slot_count layout queue-wide queue-even q p l (omega arith)

  pub view-slots : length (queue_of (view l) q) ≡ slot_count
  view-slots = ap length view-queue ∙ simp (length-take, length-drop) (omega arith)

  pub view-slot : (j : ℕ) → j < slot_count → get_or (queue_of (view l) q) j 0 ≡ get_or l (queue_at q + j) 0
  view-slot j d = ap (λ (x : List ℕ). get_or x j 0) view-queue ∙ get_or-take slot_count (drop (queue_at q) l) j 0 d ∙ get_or-drop (queue_at q) l j 0

-- ---- a queue that is lent, from a to e, and comes back

module _ (l : List ℕ) (q a e : ℕ) (h : Image l) (p : q < queue_count) (s : a ≡ queue_at q) (n : e ≡ a + slot_count) where
  pub queue-put : (ys : List ℕ) → length ys ≡ slot_count → view (put_mid a (e - a) l ys) ≡ with_queue q ys (view l)
  unfolding view
  queue-put ys y =
      let t : List (List ℕ) = columns layout l in
      let z : columns layout (put_mid a (e - a) l ys) ≡ set t (queue_first + q) ys =
      ap (λ (z : ℕ). columns layout (put_mid a (z - a) l ys)) n
      ∙ ap (columns layout) (put-lent a slot_count l ys)
      ∙ ap (λ (z : ℕ). columns layout (splice slot_count z ys l)) s
      ∙ run-put queue_first queue_count slot_count layout queue-wide queue-even q p l (omega arith) ys y in
      rw z
      (λ x.
      record {
        tasks = run_kept t (queue_first + q) ys task.kind (inr (omega arith)) x;
        semaphores = run_kept t (queue_first + q) ys semaphore.kind (inr (omega arith)) x;
        mutexes = run_kept t (queue_first + q) ys mutex.kind (inr (omega arith)) x;
        groups = run_kept t (queue_first + q) ys group.kind (inr (omega arith)) x;
        channels = run_kept t (queue_first + q) ys channel.kind (inr (omega arith)) x;
        queues = run-set t (queue_first + q) ys queue_first queue_count q p refl (omega (arith, columns-long layout l)) x;
        tick = run-entry t (queue_first + q) ys tick_column 0 (λ d. omega arith) x;
        default_quantum = run-entry t (queue_first + q) ys default_column 0 (λ d. omega arith) x;
        depth = run-entry t (queue_first + q) ys depth_column 0 (λ d. omega arith) x;
        running = run-entry t (queue_first + q) ys running_column 0 (λ d. omega arith) x;
        ready = run-entry t (queue_first + q) ys ready_column 0 (λ d. omega arith) x;
        messages = run-apart t (queue_first + q) ys message_first channel_count (λ n o d. omega arith) x;
      })
