-- The image of a table, and that bytes and table determine each other: each image of bytes shows one table, and each table whose fields
-- fit their bytes, as those of a sound one do, is shown by one image.
use Rattle.std.specs.Prelude.{◌≡◌, ℕ, ◌+◌, ◌≤◌, ◌<◌, length, drop}
use Rattle.std.proofs.Math.Path.{refl, ap}
use Rattle.std.proofs.Common.{sym, subst, ◌∙◌, arith}
use mathlib.Core.List.{List, [], ◌∷◌, ◌++◌}
use Rattle.std.proofs.Math.Decide.{dec_lt}
use Rattle.std.proofs.Math.ListN.{get_or, length-append, get_or-eq_default}
use Rattle.columns.specs.Columns.{entry, Below, Fits as Numbers}
use Rattle.columns.specs.Image.{columns-image, image-long, image-bytes, entry-small}
use Rattle.columns.specs.Rows.{Stands, here, past, last, columns_of, columns_of_long, records_back}
use Rattle.columns.specs.Runs.{same_run, run_back}
use Rattle.columns.specs.Views.{same_none, same_next, same_one, same_all}
use Rattle.columns.specs.Words.{bytes_drop, bytes_take}
use Rattle.columns.specs.Whole.{records-fit, fits_none, fits_kind, fits_run, fits_one, fits_all}
use Rattle.rules.specs.Sizes.{task_count, semaphore_count, mutex_count, group_count, channel_count, most_messages, greatest_message, words_round}
use Rattle.rules.specs.Table.{Table, queue_count, task_of, semaphore_of, mutex_of, group_of, channel_of, queue_of, row_of}
use Rattle.rules.specs.Sound.{Each, Shaped, Sound}
use Rattle.rules.specs.KindLaws.{all_at}
use Rattle.rules.specs.Tape.{Bytes}
use Rattle.table.specs.kinds.Task as task
use Rattle.table.specs.kinds.Semaphore as semaphore
use Rattle.table.specs.kinds.Mutex as mutex
use Rattle.table.specs.kinds.Group as group
use Rattle.table.specs.kinds.Channel as channel
use Rattle.table.specs.records.Task as task-record
use Rattle.table.specs.records.Semaphore as semaphore-record
use Rattle.table.specs.records.Mutex as mutex-record
use Rattle.table.specs.records.Group as group-record
use Rattle.table.specs.records.Channel as channel-record
use Rattle.table.specs.Image.{slot_count, queue_first, tick_column, default_column, depth_column, running_column, ready_column, message_first, layout, Image, view, numbers_of, image_of}
use Rattle.table.specs.Queues.{queue-wide, queue-even, queue_at, view-queue}
use Rattle.table.specs.Messages.{message-wide, message-even, view-row-small}
use Rattle.table.specs.Shape.{view-shaped}

-- ---- every byte shows

pub lossless : (l m : List ℕ) → Image l → Image m → Bytes l → Bytes m → view l ≡ view m → l ≡ m
unfolding view
lossless l m h k b d e =
    same_all layout l m
    (same_run layout l m message_first channel_count (ap (λ (t : Table). t.messages) e)
    (same_one layout l m ready_column (ap (λ (t : Table). t.ready) e) refl
    (same_one layout l m running_column (ap (λ (t : Table). t.running) e) refl
    (same_one layout l m depth_column (ap (λ (t : Table). t.depth) e) refl
    (same_one layout l m default_column (ap (λ (t : Table). t.default_quantum) e) refl
    (same_one layout l m tick_column (ap (λ (t : Table). t.tick) e) refl
    (same_run layout l m queue_first queue_count (ap (λ (t : Table). t.queues) e)
    (same_next layout l m channel.kind channel-record.even (ap (λ (t : Table). t.channels) e)
    (same_next layout l m group.kind group-record.even (ap (λ (t : Table). t.groups) e)
    (same_next layout l m mutex.kind mutex-record.even (ap (λ (t : Table). t.mutexes) e)
    (same_next layout l m semaphore.kind semaphore-record.even (ap (λ (t : Table). t.semaphores) e)
    (same_next layout l m task.kind task-record.even (ap (λ (t : Table). t.tasks) e)
    (same_none layout l m)))))))))))))
    b d h k

-- ---- the tables whose fields fit their bytes

pub record Fits (t : Table) : Type 0 where
  pub shaped : Shaped t
  pub tasks : Each task_count (λ i. task-record.Small (task_of t i))
  pub semaphores : Each semaphore_count (λ s. semaphore-record.Small (semaphore_of t s))
  pub mutexes : Each mutex_count (λ m. mutex-record.Small (mutex_of t m))
  pub groups : Each group_count (λ g. group-record.Small (group_of t g))
  pub channels : Each channel_count (λ c. channel-record.Small (channel_of t c))
  pub queues : Each queue_count (λ q. Bytes (queue_of t q))
  pub tick : t.tick < 4294967296
  pub default_quantum : t.default_quantum < 65536
  pub depth : t.depth < 256
  pub running : t.running < 256
  pub ready : t.ready < words_round
  pub messages : Each channel_count (λ c. Below 4 (row_of t c))

-- The table that an image of bytes shows fits.
pub view_fits : (l : List ℕ) → Image l → Bytes l → Fits (view l)
unfolding view task.made semaphore.made mutex.made group.made channel.made
view_fits l h b =
    record {
      shaped = view-shaped l h;
      tasks = λ i p. task-record.small _ (records-fit task.kind layout l b i p);
      semaphores = λ i p. semaphore-record.small _ (records-fit semaphore.kind layout l b i p);
      mutexes = λ i p. mutex-record.small _ (records-fit mutex.kind layout l b i p);
      groups = λ i p. group-record.small _ (records-fit group.kind layout l b i p);
      channels = λ i p. channel-record.small _ (records-fit channel.kind layout l b i p);
      queues = λ q p. subst Bytes (sym (view-queue l h q p)) (bytes_take slot_count (drop (queue_at q) l) (bytes_drop (queue_at q) l b));
      tick = entry-small layout l b tick_column 0;
      default_quantum = entry-small layout l b default_column 0;
      depth = entry-small layout l b depth_column 0;
      running = entry-small layout l b running_column 0;
      ready = entry-small layout l b ready_column 0;
      messages = λ c p. view-row-small l c p b;
    }

-- ---- a sound table fits

row_fits : (row : List ℕ) → length row ≡ most_messages → Each most_messages (λ j. get_or row j 0 ≤ greatest_message) → Below 4 row
row_fits row n f j = go (dec_lt j most_messages)
  where
    go : Dec (j < most_messages) → get_or row j 0 < 4294967296
    go (yes p) = omega (arith, f j p)
    go (no p) = rw (get_or-eq_default row 0 {n = j} (omega arith)) (omega arith)

pub sound_fits : {t : Table} → Sound t → Fits t
sound_fits {t} s =
    record {
      shaped = s.settled.queued.shaped;
      tasks = λ i h. task-record.fits (task_of t i) (s.settled.tasks i h).in_range;
      semaphores = λ i h. semaphore-record.fits (semaphore_of t i) (s.settled.objects.semaphores i h);
      mutexes = λ i h. mutex-record.fits (mutex_of t i) (s.settled.objects.mutexes i h);
      groups = λ i h. group-record.fits (group_of t i) (s.settled.objects.groups i h);
      channels = λ i h. channel-record.fits (channel_of t i) (row_of t i) (s.settled.objects.channels i h);
      queues = λ q h j. omega (arith, all_at {P = λ v. v ≤ 32} (omega arith) (s.settled.queued.nothing_else q h) j);
      tick = s.settled.numbers.tick;
      default_quantum = omega (arith, s.settled.numbers.default_most);
      depth = omega (arith, s.settled.numbers.depth);
      running = omega (arith, s.runs.range);
      ready = s.settled.queued.ready.word;
      messages = λ c h. row_fits (row_of t c) (s.settled.queued.shaped.rows c h) (s.settled.objects.channels c h).messages;
    }

-- ---- the image of a table that fits: it has the right length, shows the table, and holds bytes

module _ {t : Table} (f : Fits t) where
  abbrev n : List (List ℕ)
  n = numbers_of t

  -- What is joined: the columns of each kind, the queues, the single numbers and the messages; and all that stands behind each.
  abbrev ts : List (List ℕ)
  ts = columns_of task.kind t.tasks

  abbrev ss : List (List ℕ)
  ss = columns_of semaphore.kind t.semaphores

  abbrev ms : List (List ℕ)
  ms = columns_of mutex.kind t.mutexes

  abbrev gs : List (List ℕ)
  gs = columns_of group.kind t.groups

  abbrev cs : List (List ℕ)
  cs = columns_of channel.kind t.channels

  abbrev ns : List (List ℕ)
  ns = (t.tick ∷ []) ∷ (t.default_quantum ∷ []) ∷ (t.depth ∷ []) ∷ (t.running ∷ []) ∷ (t.ready ∷ []) ∷ []

  abbrev past_qs : List (List ℕ)
  past_qs = ns ++ t.messages

  abbrev past_cs : List (List ℕ)
  past_cs = t.queues ++ past_qs

  abbrev past_gs : List (List ℕ)
  past_gs = cs ++ past_cs

  abbrev past_ms : List (List ℕ)
  past_ms = gs ++ past_gs

  abbrev past_ss : List (List ℕ)
  past_ss = ms ++ past_ms

  abbrev past_ts : List (List ℕ)
  past_ts = ss ++ past_ss

  ts-long : length ts ≡ (task.kind).wide
  ts-long = columns_of_long task.kind t.tasks

  ss-long : length ss ≡ (semaphore.kind).wide
  ss-long = columns_of_long semaphore.kind t.semaphores

  ms-long : length ms ≡ (mutex.kind).wide
  ms-long = columns_of_long mutex.kind t.mutexes

  gs-long : length gs ≡ (group.kind).wide
  gs-long = columns_of_long group.kind t.groups

  cs-long : length cs ≡ (channel.kind).wide
  cs-long = columns_of_long channel.kind t.channels

  at_ts : Stands (task.kind).first ts n
  unfolding numbers_of
  at_ts = here ts past_ts

  at_ss : Stands (semaphore.kind).first ss n
  unfolding numbers_of
  at_ss = past 0 (task.kind).wide ts ss past_ts ts-long (here ss past_ss)

  at_ms : Stands (mutex.kind).first ms n
  unfolding numbers_of
  at_ms = past (semaphore.kind).wide (task.kind).wide ts ms past_ts ts-long (past 0 (semaphore.kind).wide ss ms past_ss ss-long (here ms past_ms))

  behind : (a : ℕ) (p : List (List ℕ)) → Stands a p past_ms → Stands ((task.kind).wide + ((semaphore.kind).wide + ((mutex.kind).wide + a))) p n
  unfolding numbers_of
  behind a p s =
      past ((semaphore.kind).wide + ((mutex.kind).wide + a)) (task.kind).wide ts p past_ts ts-long
      (past ((mutex.kind).wide + a) (semaphore.kind).wide ss p past_ss ss-long (past a (mutex.kind).wide ms p past_ms ms-long s))

  at_gs : Stands (group.kind).first gs n
  at_gs = behind 0 gs (here gs past_gs)

  further : (a : ℕ) (p : List (List ℕ)) → Stands a p past_cs → Stands ((task.kind).wide + ((semaphore.kind).wide + ((mutex.kind).wide + ((group.kind).wide + ((channel.kind).wide + a))))) p n
  further a p s =
      behind ((group.kind).wide + ((channel.kind).wide + a)) p
      (past ((channel.kind).wide + a) (group.kind).wide gs p past_gs gs-long (past a (channel.kind).wide cs p past_cs cs-long s))

  at_cs : Stands (channel.kind).first cs n
  at_cs = behind (group.kind).wide cs (past 0 (group.kind).wide gs cs past_gs gs-long (here cs past_cs))

  at_qs : Stands queue_first t.queues n
  at_qs = further 0 t.queues (here t.queues past_qs)

  at_ns : Stands tick_column ns n
  at_ns = further queue_count ns (past 0 queue_count t.queues ns past_qs f.shaped.queues (here ns t.messages))

  at_rows : Stands message_first t.messages n
  at_rows =
      further (queue_count + 5) t.messages
      (past 5 queue_count t.queues t.messages past_qs f.shaped.queues (past 0 5 ns t.messages t.messages refl (last t.messages)))

  long : length n ≡ length layout
  unfolding numbers_of
  long = simp length-append (omega (arith, ts-long, ss-long, ms-long, gs-long, cs-long, f.shaped.queues, f.shaped.messages))

  numbers_fit : Numbers layout n
  unfolding task.made semaphore.made mutex.made group.made channel.made
  numbers_fit =
      fits_all layout n long
      (fits_run layout n message_first channel_count 4 most_messages message-wide message-even t.messages f.shaped.messages at_rows f.shaped.rows f.messages
      (fits_one layout n ready_column t.ready (at_ns 4 (omega arith)) refl f.ready
      (fits_one layout n running_column t.running (at_ns 3 (omega arith)) refl f.running
      (fits_one layout n depth_column t.depth (at_ns 2 (omega arith)) refl f.depth
      (fits_one layout n default_column t.default_quantum (at_ns 1 (omega arith)) refl f.default_quantum
      (fits_one layout n tick_column t.tick (at_ns 0 (omega arith)) refl f.tick
      (fits_run layout n queue_first queue_count 1 slot_count queue-wide queue-even t.queues f.shaped.queues at_qs f.shaped.slots f.queues
      (fits_kind layout n channel.kind channel-record.even t.channels at_cs (λ i p. channel-record.small_fits _ (f.channels i p))
      (fits_kind layout n group.kind group-record.even t.groups at_gs (λ i p. group-record.small_fits _ (f.groups i p))
      (fits_kind layout n mutex.kind mutex-record.even t.mutexes at_ms (λ i p. mutex-record.small_fits _ (f.mutexes i p))
      (fits_kind layout n semaphore.kind semaphore-record.even t.semaphores at_ss (λ i p. semaphore-record.small_fits _ (f.semaphores i p))
      (fits_kind layout n task.kind task-record.even t.tasks at_ts (λ i p. task-record.small_fits _ (f.tasks i p))
      (fits_none layout n)))))))))))))

  pub image-length : Image (image_of t)
  unfolding image_of
  image-length = image-long numbers_fit

  pub image-view : view (image_of t) ≡ t
  unfolding view image_of entry
  image-view =
      rw (columns-image numbers_fit)
      (λ x.
      record {
        tasks = records_back task.kind n t.tasks at_ts f.shaped.tasks x;
        semaphores = records_back semaphore.kind n t.semaphores at_ss f.shaped.semaphores x;
        mutexes = records_back mutex.kind n t.mutexes at_ms f.shaped.mutexes x;
        groups = records_back group.kind n t.groups at_gs f.shaped.groups x;
        channels = records_back channel.kind n t.channels at_cs f.shaped.channels x;
        queues = run_back queue_first queue_count n t.queues at_qs f.shaped.queues x;
        tick = ap (λ (c : List ℕ). get_or c 0 0) (at_ns 0 (omega arith)) x;
        default_quantum = ap (λ (c : List ℕ). get_or c 0 0) (at_ns 1 (omega arith)) x;
        depth = ap (λ (c : List ℕ). get_or c 0 0) (at_ns 2 (omega arith)) x;
        running = ap (λ (c : List ℕ). get_or c 0 0) (at_ns 3 (omega arith)) x;
        ready = ap (λ (c : List ℕ). get_or c 0 0) (at_ns 4 (omega arith)) x;
        messages = run_back message_first channel_count n t.messages at_rows f.shaped.messages x;
      })

pub image-small : (t : Table) → Bytes (image_of t)
unfolding image_of
image-small t = image-bytes layout (numbers_of t)

-- ---- one image

-- The image of what an image shows is that image.
pub view-image : (l : List ℕ) → Image l → Bytes l → image_of (view l) ≡ l
view-image l h b =
    let f = view_fits l h b in
    lossless (image_of (view l)) l (image-length f) h (image-small (view l)) b (image-view f)

-- What shows a sound table is its image.
pub one_image : {t : Table} → Sound t → (l : List ℕ) → Image l → Bytes l → view l ≡ t → l ≡ image_of t
one_image {t} s l h b e =
    let f = sound_fits s in
    lossless l (image_of t) h (image-length f) b (image-small t) (e ∙ sym (image-view f))

-- Each sound table has an image, and only one.
pub exactly_one : {t : Table} → Sound t → (Image (image_of t) × Bytes (image_of t) × (view (image_of t) ≡ t)) × ((l : List ℕ) → Image l → Bytes l → view l ≡ t → l ≡ image_of t)
exactly_one {t} s = ((image-length (sound_fits s), image-small t, image-view (sound_fits s)), one_image s)
