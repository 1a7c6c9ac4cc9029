-- One object stored, and the calls that every family of objects has: they keep all the groups. What a family must bring is `Lawful`.
use Rattle.std.specs.Prelude.{◌≡◌, refl, ◌≢◌, true, List, [], ℕ, ◌-◌, ◌<◌, length}
use Rattle.std.proofs.Common.{sym, ap, subst, arith, set-set}
use Rattle.rules.specs.Sizes.{task_count, semaphore_count, mutex_count, group_count, channel_count, ticks_round, waits_mutex, waits_flags, waits_message, aborted}
use Rattle.rules.specs.Table.{Table, Asked, task_of, channel_of, row_of, semaphore_queue, mutex_queue, group_queue, channel_queue, first_in, is_able, no_channel, with_held, with_semaphore, with_mutex, with_group, with_channels, with_channel, with_row, holder_of}
use Rattle.rules.specs.Messages.{laid, greater, holding}
use Rattle.rules.specs.Move.{next}
use Rattle.rules.specs.Sound.{Empty, SoundSemaphore, SoundMutex, SoundGroup, SoundChannel, MayWait, SoundWithin}
use Rattle.rules.specs.Time.{caller_of}
use Rattle.rules.specs.Family.{Family, waiters_of, semaphores, mutexes, groups, channels, families, Among}
use Rattle.rules.specs.Object.{blocked, waits, abort, object_abort, object_delete}
use Rattle.rules.specs.declared.Semaphore.{Semaphore}
use Rattle.rules.specs.declared.Mutex.{Mutex}
use Rattle.rules.specs.declared.Group.{Group}
use Rattle.rules.specs.declared.Channel.{Channel}
use Rattle.laws.specs.queues.Put.{sized}
use Rattle.laws.specs.queues.Shapes.{semaphore_shaped, mutex-shaped, group_shaped, channel-shaped, row-shaped}
use Rattle.laws.specs.chains.Graph.{Alike, waits-task, unwaited-alike}
use Rattle.laws.specs.chains.Priorities.{blocked-worked}
use Rattle.laws.specs.keeps.Becomes.{caller, caller-used}
use Rattle.laws.specs.keeps.Records.{MayAsk, limited_right, limited-used, limited-later}
use Rattle.laws.specs.queues.Rows.{among-semaphores, among-mutexes, among-groups, among-channels, waiting, known, numbers, first_queue, last_queue}
use Rattle.laws.specs.queues.Stands.{unwaited}
use Rattle.laws.specs.keeps.Messages.{laid-length, anew-free}
use Rattle.laws.specs.keeps.Objects.{one_wait, HeldApart, Awaited, semaphore_objects, mutex-objects, group_objects, channel-objects}
use Rattle.laws.specs.keeps.Ending.{first_waiter, emptied_all}
use Rattle.laws.specs.keeps.Moves.{BeforeChoice, put-walk_keeps, Waiter, ended_keeps, Stores, stores_keeps}

-- ---- objects stored

-- A channel that goes is stored once.
gone_is : (c : ℕ) (t : Table) → channels.gone c t ≡ with_row c (laid (greater (channel_of t c).held 0) [] (row_of t c)) (with_channel c no_channel t)
unfolding holding
gone_is c t = ap (λ (x : List Channel). with_row c (laid (greater (channel_of t c).held 0) [] (row_of t c)) (with_channels x t)) (set-set t.channels c (with_held 0 (channel_of t c)) no_channel)

-- What leaves tasks and mutexes as they are makes no task wait for another.
no_chain-moves : {t u : Table} → u.tasks ≡ t.tasks → u.mutexes ≡ t.mutexes → Alike t u
unfolding next holder_of
no_chain-moves a b = record { nexts = λ j. rw (a, b); bases = λ j. rw a; works = λ j. rw a }

module _ {t : Table} (s : SoundWithin t) where
  -- A mutex: whoever waits for it may go on waiting, and its holder is in use.
  pub mutex_stores : (m : ℕ) (x : Mutex) → SoundMutex x
      → ((j : ℕ) → j < task_count → (task_of t j).state ≡ waits_mutex → (task_of t j).object ≡ m → HeldApart j x)
      → (x.holder ≢ 0 → (task_of t (x.holder - 1)).used ≡ 1)
      → Stores t (with_mutex m x t)
  mutex_stores m x right waited uses =
      record { tasks = refl; queues = refl; word = refl; shaped = mutex-shaped s.queued.shaped m x; frames = refl; objects = mutex-objects m x s.objects right waited uses }

  -- One for which nobody waits.
  pub mutex-unwaited : (m : ℕ) (x : Mutex) → m < mutex_count → SoundMutex x → (x.holder ≢ 0 → (task_of t (x.holder - 1)).used ≡ 1) → Empty (mutex_queue m) t
      → Stores t (with_mutex m x t) × Alike t (with_mutex m x t)
  mutex-unwaited m x l right uses z =
      let none = unwaited among-mutexes s.queued m l z in
      (mutex_stores m x right (λ j k e o. absurd (none j k e o)) uses, unwaited-alike m x t (λ j w. none j (waits-task t m j (sized s) w) w.0 w.1))

  -- The same of a semaphore, which makes no task wait for another.
  pub semaphore_unwaited : (o : ℕ) (x : Semaphore) → o < semaphore_count → SoundSemaphore x → Empty (semaphore_queue o) t → Stores t (with_semaphore o x t) × Alike t (with_semaphore o x t)
  semaphore_unwaited o x l right z = (
    record {
      tasks = refl;
      queues = refl;
      word = refl;
      shaped = semaphore_shaped s.queued.shaped o x;
      frames = refl;
      objects = semaphore_objects o x s.objects right (λ j k e y. absurd (unwaited among-semaphores s.queued o l z j k e y));
    },
    no_chain-moves refl refl,
  )

  -- A group: whoever waits for it finds it in use. It makes no task wait for another either.
  pub group_stores : (g : ℕ) (x : Group) → SoundGroup x → ((j : ℕ) → j < task_count → (task_of t j).state ≡ waits_flags → (task_of t j).object ≡ g → x.used ≡ 1)
      → Stores t (with_group g x t) × Alike t (with_group g x t)
  group_stores g x right waited = (
    record { tasks = refl; queues = refl; word = refl; shaped = group_shaped s.queued.shaped g x; frames = refl; objects = group_objects g x s.objects right waited },
    no_chain-moves refl refl,
  )

  pub group_unwaited : (g : ℕ) (x : Group) → g < group_count → SoundGroup x → Empty (group_queue g) t → Stores t (with_group g x t) × Alike t (with_group g x t)
  group_unwaited g x l right z = group_stores g x right (λ j k e o. absurd (unwaited among-groups s.queued g l z j k e o))

  -- A channel and its row: whoever waits for it finds it in use and without a message.
  module _ (c : ℕ) (l : c < channel_count) where
    pub channel_stores : (x : Channel) (row : List ℕ) → length row ≡ length (row_of t c) → SoundChannel x row
        → ((j : ℕ) → j < task_count → (task_of t j).state ≡ waits_message → (task_of t j).object ≡ c → Awaited x.used x.held)
        → Stores t (with_row c row (with_channel c x t)) × Alike t (with_row c row (with_channel c x t))
    channel_stores x row e right waited = (
      record {
        tasks = refl;
        queues = refl;
        word = refl;
        shaped = row-shaped (channel-shaped s.queued.shaped c x) c row e;
        frames = refl;
        objects = channel-objects s.queued.shaped c x row l s.objects right waited;
      },
      no_chain-moves refl refl,
    )

    -- Nobody waits for it.
    pub channel-unwaited : (x : Channel) (row : List ℕ) → length row ≡ length (row_of t c) → SoundChannel x row → Empty (channel_queue c) t
        → Stores t (with_row c row (with_channel c x t)) × Alike t (with_row c row (with_channel c x t))
    channel-unwaited x row e right z = channel_stores x row e right (λ j k a b. absurd (unwaited among-channels s.queued c l z j k a b))

    -- It goes, with its messages.
    pub channel-goes : Empty (channel_queue c) t → Stores t (channels.gone c t) × Alike t (channels.gone c t)
    channel-goes z =
        subst (λ (u : Table). Stores t u × Alike t u) (sym (gone_is c t))
        (channel-unwaited no_channel _ (laid-length (greater (channel_of t c).held 0) [] (row_of t c)) (anew-free (s.objects.channels c l) (s.queued.shaped.rows c l)) z)

-- ---- families

-- What a family brings, so that the laws of the calls on any family hold of it.
pub record Lawful (f : Family) : Type 1 where
  pub among : Among f families
  -- where the state is a mutex's, the holder is the next in the chain
  pub chain : f.state ≡ waits_mutex → (t : Table) (o : ℕ) → f.holder t o ≡ holder_of t o
  -- one without a waiter may go
  pub goes : {t : Table} → SoundWithin t → (o : ℕ) → o < f.count → Empty (waiters_of f o) t → Stores t (f.gone o t) × Alike t (f.gone o t)

pub semaphores_lawful : Lawful semaphores
semaphores_lawful =
    record {
      among = among-semaphores;
      chain = λ e. absurd (omega arith);
      goes = λ s o l. semaphore_unwaited s o _ l (record { used = omega arith; count = omega arith; free = λ e. refl });
    }

pub mutexes_lawful : Lawful mutexes
mutexes_lawful =
    record {
      among = among-mutexes;
      chain = λ e t o. refl;
      goes = λ s m l.
          mutex-unwaited s m _ l (record { used = omega arith; holder = omega arith; nesting = omega arith; free = λ e. refl; unheld = λ e. refl; held = λ d. absurd (d refl) }) (λ d. absurd (d refl));
    }

pub groups_lawful : Lawful groups
groups_lawful =
    record {
      among = among-groups;
      chain = λ e. absurd (omega arith);
      goes = λ s g l. group_unwaited s g _ l (record { used = omega arith; flags = omega arith; free = λ e. refl });
    }

pub channels_lawful : Lawful channels
channels_lawful = record { among = among-channels; chain = λ e. absurd (omega arith); goes = λ s c l. channel-goes s c l }

-- ---- the calls that every family has

-- The first in the queue of an object waits.
pub waiter_of : {f : Family} → Lawful f → {t : Table} → SoundWithin t → (o : ℕ) → o < f.count → first_in (waiters_of f o) t ≢ 0 → Waiter t (first_in (waiters_of f o) t - 1)
waiter_of {f} k s o l some = first_waiter s (waiters_of f o) (omega (arith, last_queue k.among)) (λ e. omega (arith, first_queue k.among)) some

module _ {f : Family} (k : Lawful f) {t : Table} (h : BeforeChoice t) (o : ℕ) (l : o < f.count) where
  -- "Abort: the first waiter leaves, the chain from the holder moves, the waiter becomes plain, outcome 2."
  pub abort_keeps : first_in (waiters_of f o) t ≢ 0 → BeforeChoice (object_abort f o t)
  unfolding object_abort abort
  abort_keeps some = ended_keeps h (waiter_of k h.settled o l some) aborted (omega arith)

  -- "the same for each waiter from the first, outcome 3, then the object goes; its holder is recomputed and its chain moved"
  pub delete_keeps : BeforeChoice (object_delete f o t)
  unfolding object_delete
  delete_keeps =
      let e = emptied_all (waiters_of f o) (omega (arith, last_queue k.among)) (λ z. omega (arith, first_queue k.among)) h in
      stores_keeps e.midway (k.goes e.midway.settled o l e.empty) (f.holder t o)

  -- "Otherwise the caller leaves the able queue, goes behind its equals in the object's queue, and .. the chain from the holder moves."
  pub waits_keeps : (limit : ℕ) (a : Asked) → limit < ticks_round → MayAsk f.state a → caller_of t < task_count → is_able (caller t) ≡ true → t.depth ≡ 0 → MayWait f t (caller_of t) o
      → BeforeChoice (waits f o limit a t)
  unfolding waits blocked
  waits_keeps limit asked most asks c a z may =
      let s = h.settled in
      put-walk_keeps h
      (record {
        task = c;
        right = limited_right (s.tasks _ c) (caller-used t a) f.state o asked (known k.among) (omega (arith, numbers k.among)) asks limit t (waiting k.among);
        not_due = λ n. limited-later t (caller t) f.state o limit asked s.numbers.tick most;
        waits = one_wait k.among may;
        holds = λ m n e. limited-used (s.tasks _ c) (caller-used t a) limit t;
        runs = λ d. absurd (d z);
      })
      (f.holder t o)
      (blocked-worked s c a f.state o limit asked (f.holder t o) (λ e. k.chain e t o))
