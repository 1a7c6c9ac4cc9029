-- The view of every image has the paper's sizes, and what the fresh image is.
use Rattle.std.specs.Prelude.{◌≡◌, refl, List, ℕ, zero, suc, ◌+◌, ◌<◌, length, get_or, set, replicate}
use Rattle.std.proofs.Common.{sym, ap, ◌∙◌, not-suc-le-zero, arith, length-set, ext_get_or, get_or-set_same, get_or-set_other}
use Rattle.std.proofs.Math.Decide.{ℕ_discrete}
use Rattle.columns.specs.Columns.{word, numbers, offset, columns, entry}
use Rattle.columns.specs.Rows.{tabulate, tabulate-long, records, records-long}
use Rattle.columns.specs.Runs.{run_of}
use Rattle.rules.specs.Sizes.{channel_count, fresh_quantum}
use Rattle.rules.specs.Table.{queue_count, fresh_table, with_default_quantum}
use Rattle.rules.specs.Sound.{Each, Shaped}
use Rattle.table.specs.kinds.Task as task
use Rattle.table.specs.kinds.Semaphore as semaphore
use Rattle.table.specs.kinds.Mutex as mutex
use Rattle.table.specs.kinds.Group as group
use Rattle.table.specs.kinds.Channel as channel
use Rattle.table.specs.Image.{default_column, layout, image_size, Image, view}
use Rattle.table.specs.Queues.{view-slots}
use Rattle.table.specs.Messages.{view-row-long}

pub view-shaped : (l : List ℕ) → Image l → Shaped (view l)
unfolding view run_of
view-shaped l h =
    record {
      tasks = records-long task.kind (columns layout l);
      semaphores = records-long semaphore.kind (columns layout l);
      mutexes = records-long mutex.kind (columns layout l);
      groups = records-long group.kind (columns layout l);
      channels = records-long channel.kind (columns layout l);
      queues = tabulate-long queue_count _;
      slots = view-slots l h;
      messages = tabulate-long channel_count _;
      rows = view-row-long l;
    }

-- Zeros show the fresh table, but for its default quantum.
pub zeros-view : view (replicate image_size 0) ≡ with_default_quantum 0 fresh_table
unfolding view fresh_table records tabulate columns numbers word entry run_of task.made semaphore.made mutex.made group.made channel.made
zeros-view = refl

-- The fresh image: zeros, but for the lower byte of the default quantum.
unfoldable pub fresh_bytes : List ℕ
fresh_bytes = set (replicate image_size 0) (offset layout default_column) fresh_quantum

pub fresh-view : view fresh_bytes ≡ fresh_table
unfolding fresh_bytes view fresh_table records tabulate columns numbers word entry run_of task.made semaphore.made mutex.made group.made channel.made
fresh-view = refl

-- Its bytes one by one.
zero_at : (n i : ℕ) → get_or {A = ℕ} (replicate n 0) i 0 ≡ 0
zero_at zero i = refl
zero_at (suc n) zero = refl
zero_at (suc n) (suc i) = zero_at n i

pub fresh_default : {i : ℕ} → i ≡ offset layout default_column → fresh_quantum ≡ get_or fresh_bytes i 0
unfolding fresh_bytes
fresh_default e = rw e (sym (get_or-set_same (replicate image_size 0) (offset layout default_column) fresh_quantum 0 (omega arith)))

pub fresh-zero : {i : ℕ} → (i ≡ offset layout default_column → ⊥) → 0 ≡ get_or fresh_bytes i 0
unfolding fresh_bytes
fresh-zero {i} d = sym (get_or-set_other (replicate image_size 0) (offset layout default_column) i fresh_quantum 0 d ∙ zero_at image_size i)

-- The bytes of m are written up to n.
pub record Written (n : ℕ) (m : List ℕ) : Type 0 where
  pub size : Image m
  pub at : Each n (λ i. get_or m i 0 ≡ get_or fresh_bytes i 0)

pub written_none : {m : List ℕ} → Image m → Written 0 m
written_none h = record { size = h; at = λ i l. absurd (not-suc-le-zero l) }

pub written_more : {n : ℕ} {m : List ℕ} (v : ℕ) → n < image_size → v ≡ get_or fresh_bytes n 0 → Written n m → Written (n + 1) (set m n v)
written_more {n} {m} v l e w = record { size = length-set m n v ∙ w.size; at = λ i h. go i h (ℕ_discrete i n) }
  where
    go : (i : ℕ) → i < n + 1 → Dec (i ≡ n) → get_or (set m n v) i 0 ≡ get_or fresh_bytes i 0
    go i h (yes q) = rw q (get_or-set_same m n v 0 (omega (arith, w.size)) ∙ e)
    go i h (no q) = get_or-set_other m n i v 0 q ∙ w.at i (omega arith)

pub written_all : {m : List ℕ} → Written image_size m → view m ≡ fresh_table
unfolding fresh_bytes
written_all {m} w =
    let long : length fresh_bytes ≡ image_size = length-set (replicate image_size 0) (offset layout default_column) fresh_quantum in
    ap view (ext_get_or 0 m fresh_bytes (w.size ∙ sym long) (λ i l. w.at i (omega (arith, w.size)))) ∙ fresh-view
