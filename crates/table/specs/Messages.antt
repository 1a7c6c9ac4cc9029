-- The messages: a row of numbers for each channel, read and put one by one.
use Rattle.std.specs.Prelude.{◌≡◌, true, length}
use Rattle.std.proofs.Math.Path.{refl, sym, ap}
use Rattle.std.proofs.Common.{◌∙◌, inr, arith}
use mathlib.Core.List.{List, []}
use Prim.Native.Nat.{ℕ, ◌+◌, ◌*◌, ◌<◌, ◌^◌}
use Rattle.std.proofs.Math.ListN.{get_or, set}
use Rattle.columns.specs.Columns.{word_at, put_at, offset, columns, entry, with_entry, Bytes, Below}
use Rattle.columns.specs.Every.{every}
use Rattle.columns.specs.Image.{entry-small}
use Rattle.columns.specs.Rows.{tabulate_at}
use Rattle.columns.specs.Runs.{all_wide, all_long, run_of, wide, long, run-read, run_write, run-set, run_kept, run-entry, run-apart}
use Rattle.columns.specs.Views.{columns-long, count_long}
use Rattle.rules.specs.Sizes.{channel_count, most_messages}
use Rattle.rules.specs.Table.{queue_count, row_of, with_row}
use Rattle.table.specs.kinds.Task as task
use Rattle.table.specs.kinds.Semaphore as semaphore
use Rattle.table.specs.kinds.Mutex as mutex
use Rattle.table.specs.kinds.Group as group
use Rattle.table.specs.kinds.Channel as channel
use Rattle.table.specs.Image.{queue_first, tick_column, default_column, depth_column, running_column, ready_column, message_first, layout, Image, view}

-- ---- the rows have numbers of four bytes, and are alike

pub message-wide : all_wide message_first channel_count 4 layout ≡ true
unfolding every
message-wide = refl

pub message-even : all_long message_first channel_count most_messages layout ≡ true
unfolding every
message-even = refl

-- ---- what is read

-- Where the row of channel c stands.
abbrev pub row_at : ℕ → ℕ
row_at c = offset layout message_first + 4 * most_messages * c

module _ (l : List ℕ) (c : ℕ) (p : c < channel_count) where
  pub view-row : row_of (view l) c ≡ get_or (columns layout l) (message_first + c) []
  unfolding view run_of
  view-row = tabulate_at channel_count (λ j. get_or (columns layout l) (message_first + j) []) c [] p

  pub view-row-long : length (row_of (view l) c) ≡ most_messages
  view-row-long = ap length view-row ∙ count_long layout (message_first + c) l ∙ long message_first channel_count 4 most_messages layout message-wide message-even c p

  pub view-row-small : Bytes l → Below 4 (row_of (view l) c)
  unfolding entry
  view-row-small b j = rw (view-row) (rw (wide message_first channel_count 4 most_messages layout message-wide message-even c p) at (entry-small layout l b (message_first + c) j))

  pub view-message : (j : ℕ) → j < most_messages → word_at 4 (row_at c + 4 * j) l ≡ get_or (row_of (view l) c) j 0
  unfolding entry
  view-message j d =
      sym (run-read message_first channel_count 4 most_messages layout message-wide message-even c j p d l)
      ∙ ap (λ (x : List ℕ). get_or x j 0) (sym view-row)

-- ---- what is put

module _ (l m : List ℕ) (c j v : ℕ) (h : Image l) (p : c < channel_count) (d : j < most_messages) (f : v < 256 ^ 4) where
  pub message-put : m ≡ put_at 4 (row_at c + 4 * j) v l → view m ≡ with_row c (set (row_of (view l) c) j v) (view l)
  unfolding view with_entry
  message-put e =
      let t : List (List ℕ) = columns layout l in
      let k = message_first + c in
      let ys : List ℕ = set (get_or t k []) j v in
      let z : columns layout m ≡ set t k ys = ap (columns layout) e ∙ run_write message_first channel_count 4 most_messages layout message-wide message-even c j p d l v (omega arith) f in
      rw (z, view-row l c p)
      (λ x.
      record {
        tasks = run_kept t k ys task.kind (inr (omega arith)) x;
        semaphores = run_kept t k ys semaphore.kind (inr (omega arith)) x;
        mutexes = run_kept t k ys mutex.kind (inr (omega arith)) x;
        groups = run_kept t k ys group.kind (inr (omega arith)) x;
        channels = run_kept t k ys channel.kind (inr (omega arith)) x;
        queues = run-apart t k ys queue_first queue_count (λ n o d. omega arith) x;
        tick = run-entry t k ys tick_column 0 (λ d. omega arith) x;
        default_quantum = run-entry t k ys default_column 0 (λ d. omega arith) x;
        depth = run-entry t k ys depth_column 0 (λ d. omega arith) x;
        running = run-entry t k ys running_column 0 (λ d. omega arith) x;
        ready = run-entry t k ys ready_column 0 (λ d. omega arith) x;
        messages = run-set t k ys message_first channel_count c p refl (omega (arith, columns-long layout l)) x;
      })
