-- The test of a table says exactly what the standing rules say.
use Rattle.std.specs.Prelude.{◌≡◌, refl, Bool, true, false, List, ℕ, ◌-◌, ◌≤◌, ◌<◌, eqb, length}
use Rattle.std.proofs.Common.{sym, ap, subst, ◌∙◌, ⊎_elim, arith}
use Rattle.std.proofs.Math.ListN.{get_or-eq_default}
use Rattle.std.proofs.lemmas.List.{length-map}
use Rattle.queue.specs.Order.{All, none, more, Ordered, count, is_ordered}
use Rattle.queue.specs.Counts.{one_other}
use Rattle.queue.specs.Keeps.{all_map}
use Rattle.queue.specs.Checked.{whole_checked, checked_whole}
use Rattle.rules.specs.Sizes.{task_count}
use Rattle.rules.specs.Chain.{Ends, Fresh, fresh}
use Rattle.rules.specs.Afresh.{lt_or_le, fresh_is, fresh_one}
use Rattle.rules.specs.Table.{Table, task_of, semaphore_of, mutex_of, group_of, channel_of, row_of, written, works, no_task, no_semaphore, no_mutex, no_group, no_channel}
use Rattle.rules.specs.Move.{next, fresh_in}
use Rattle.rules.specs.declared.Task.{Task}
use Rattle.rules.specs.declared.Semaphore.{Semaphore}
use Rattle.rules.specs.declared.Mutex.{Mutex}
use Rattle.rules.specs.declared.Group.{Group}
use Rattle.rules.specs.declared.Channel.{Channel}
use Rattle.rules.specs.Sound.{Each, once, Shaped, is_shaped, TaskInRange, is_task_in_range, is_no_task, is_no_semaphore, is_no_mutex, is_no_group, is_no_channel, SoundTask, is_sound_task, SoundSemaphore, is_sound_semaphore, SoundMutex, is_sound_mutex, SoundGroup, is_sound_group, SoundChannel, is_sound_channel, MayWait, may_wait, SoundWait, is_sound_wait, SoundObjects, is_sound_objects, SoundQueues, is_sound_queues, is_worked_out, SoundNumbers, is_sound_numbers, SoundWithin, is_sound_within, SoundRuns, is_sound_runs, Sound, is_sound}
use Rattle.rules.specs.Family.{Family, place_of}
use Rattle.rules.proofs.Levels.{ready}
use Rattle.rules.specs.Decides.{Decides, equals, at_most, itself, fails, if_so, either, first, last, each_one, each_of_lem}

-- ---- shape and ranges

shaped : (t : Table) → Decides (is_shaped t) (Shaped t)
unfolding is_shaped
shaped t =
    first (λ s. s.tasks) equals λ tasks.
    first (λ s. s.semaphores) equals λ semaphores.
    first (λ s. s.mutexes) equals λ mutexes.
    first (λ s. s.groups) equals λ groups.
    first (λ s. s.channels) equals λ channels.
    first (λ s. s.queues) equals λ queues.
    first (λ s. s.slots) (each_one λ q l. equals) λ slots.
    first (λ s. s.messages) equals λ messages.
    last (λ s. s.rows) (each_one λ c l. equals) λ rows.
    record { tasks = tasks; semaphores = semaphores; mutexes = mutexes; groups = groups; channels = channels; queues = queues; slots = slots; messages = messages; rows = rows }

task_in_range : (k : Task) → Decides (is_task_in_range k) (TaskInRange k)
unfolding is_task_in_range
task_in_range k =
    first (λ s. s.used) at_most λ used.
    first (λ s. s.base) at_most λ base.
    first (λ s. s.work) at_most λ work.
    first (λ s. s.suspend) at_most λ suspend.
    first (λ s. s.quantum) at_most λ quantum.
    first (λ s. s.left) at_most λ left.
    first (λ s. s.state) at_most λ state.
    first (λ s. s.object) at_most λ object.
    first (λ s. s.marked) at_most λ marked.
    first (λ s. s.due) at_most λ due.
    first (λ s. s.outcome) at_most λ outcome.
    first (λ s. s.mask) at_most λ mask.
    first (λ s. s.test) at_most λ test.
    first (λ s. s.consume) at_most λ consume.
    last (λ s. s.message) at_most λ message.
    record { used = used; base = base; work = work; suspend = suspend; quantum = quantum; left = left; state = state; object = object; marked = marked; due = due; outcome = outcome; mask = mask; test = test; consume = consume; message = message }

-- ---- free numbers

pub no_task_lem : (k : Task) → Decides (is_no_task k) (k ≡ no_task)
unfolding is_no_task
no_task_lem k =
    first (ap λ (x : Task). x.used) equals λ used.
    first (ap λ (x : Task). x.base) equals λ base.
    first (ap λ (x : Task). x.work) equals λ work.
    first (ap λ (x : Task). x.suspend) equals λ suspend.
    first (ap λ (x : Task). x.quantum) equals λ quantum.
    first (ap λ (x : Task). x.left) equals λ left.
    first (ap λ (x : Task). x.state) equals λ state.
    first (ap λ (x : Task). x.object) equals λ object.
    first (ap λ (x : Task). x.marked) equals λ marked.
    first (ap λ (x : Task). x.due) equals λ due.
    first (ap λ (x : Task). x.outcome) equals λ outcome.
    first (ap λ (x : Task). x.mask) equals λ mask.
    first (ap λ (x : Task). x.test) equals λ test.
    first (ap λ (x : Task). x.consume) equals λ consume.
    last (ap λ (x : Task). x.message) equals λ message i.
    record { used = used i; base = base i; work = work i; suspend = suspend i; quantum = quantum i; left = left i; state = state i; object = object i; marked = marked i; due = due i; outcome = outcome i; mask = mask i; test = test i; consume = consume i; message = message i }

pub no_semaphore_lem : (x : Semaphore) → Decides (is_no_semaphore x) (x ≡ no_semaphore)
unfolding is_no_semaphore
no_semaphore_lem x =
    first (ap λ (x : Semaphore). x.used) equals λ used.
    last (ap λ (x : Semaphore). x.count) equals λ count i.
    record { used = used i; count = count i }

pub no_mutex_lem : (x : Mutex) → Decides (is_no_mutex x) (x ≡ no_mutex)
unfolding is_no_mutex
no_mutex_lem x =
    first (ap λ (x : Mutex). x.used) equals λ used.
    first (ap λ (x : Mutex). x.holder) equals λ holder.
    last (ap λ (x : Mutex). x.nesting) equals λ nesting i.
    record { used = used i; holder = holder i; nesting = nesting i }

pub no_group_lem : (x : Group) → Decides (is_no_group x) (x ≡ no_group)
unfolding is_no_group
no_group_lem x =
    first (ap λ (x : Group). x.used) equals λ used.
    last (ap λ (x : Group). x.flags) equals λ flags i.
    record { used = used i; flags = flags i }

pub no_channel_lem : (x : Channel) → Decides (is_no_channel x) (x ≡ no_channel)
unfolding is_no_channel
no_channel_lem x =
    first (ap λ (x : Channel). x.used) equals λ used.
    first (ap λ (x : Channel). x.capacity) equals λ capacity.
    last (ap λ (x : Channel). x.held) equals λ held i.
    record { used = used i; capacity = capacity i; held = held i }

-- ---- tasks and objects

pub task_right : (k : Task) → Decides (is_sound_task k) (SoundTask k)
unfolding is_sound_task
task_right k =
    first (λ r. r.in_range) (task_in_range k) λ in_range.
    first (λ r. r.free_zero) (if_so equals (no_task_lem k)) λ free_zero.
    first (λ r. r.plain_mark) (if_so equals equals) λ plain_mark.
    first (λ r. r.delay_mark) (if_so equals equals) λ delay_mark.
    first (λ r. r.left) at_most λ left.
    first (λ r. r.asks) (if_so equals at_most) λ asks.
    last (λ r. r.turn) (if_so equals at_most) λ turn.
    record { in_range = in_range; free_zero = free_zero; plain_mark = plain_mark; delay_mark = delay_mark; left = left; asks = asks; turn = turn }

pub semaphore_right : (x : Semaphore) → Decides (is_sound_semaphore x) (SoundSemaphore x)
unfolding is_sound_semaphore
semaphore_right x =
    first (λ r. r.used) at_most λ used.
    first (λ r. r.count) at_most λ count.
    last (λ r. r.free) (if_so equals (no_semaphore_lem x)) λ free.
    record { used = used; count = count; free = free }

pub mutex_right : (x : Mutex) → Decides (is_sound_mutex x) (SoundMutex x)
unfolding is_sound_mutex
mutex_right x =
    first (λ r. r.used) at_most λ used.
    first (λ r. r.holder) at_most λ holder.
    first (λ r. r.nesting) at_most λ nesting.
    first (λ r. r.free) (if_so equals (no_mutex_lem x)) λ free.
    first (λ r. r.unheld) (if_so equals equals) λ unheld.
    last (λ r. r.held) (if_so (fails equals) at_most) λ held.
    record { used = used; holder = holder; nesting = nesting; free = free; unheld = unheld; held = held }

pub group_right : (x : Group) → Decides (is_sound_group x) (SoundGroup x)
unfolding is_sound_group
group_right x =
    first (λ r. r.used) at_most λ used.
    first (λ r. r.flags) at_most λ flags.
    last (λ r. r.free) (if_so equals (no_group_lem x)) λ free.
    record { used = used; flags = flags; free = free }

pub channel_right : (x : Channel) (row : List ℕ) → Decides (is_sound_channel x row) (SoundChannel x row)
unfolding is_sound_channel
channel_right x row =
    first (λ r. r.used) at_most λ used.
    first (λ r. r.capacity) at_most λ capacity.
    first (λ r. r.held) at_most λ held.
    first (λ r. r.free) (if_so equals (no_channel_lem x)) λ free.
    first (λ r. r.room) (if_so equals at_most) λ room.
    first (λ r. r.messages) (each_one λ j l. at_most) λ messages.
    last (λ r. r.unused) (each_one λ j l. if_so at_most equals) λ unused.
    record { used = used; capacity = capacity; held = held; free = free; room = room; messages = messages; unused = unused }

pub may-wait : (f : Family) (t : Table) (i o : ℕ) → Decides (may_wait f t i o) (MayWait f t i o)
unfolding may_wait
may-wait f t i o =
    first (λ r. r.used) equals λ used.
    first (λ r. r.nothing) (fails itself) λ nothing.
    last (λ r. r.apart) (fails equals) λ apart.
    record { used = used; nothing = nothing; apart = apart }

pub wait_right : (t : Table) (i state object : ℕ) → Decides (is_sound_wait t i state object) (SoundWait t i state object)
unfolding is_sound_wait
wait_right t i state object = each_of_lem λ f. if_so equals (may-wait f t i object)

pub objects_right : (t : Table) → Decides (is_sound_objects t) (SoundObjects t)
unfolding is_sound_objects
objects_right t =
    first (λ r. r.semaphores) (each_one λ s l. semaphore_right (semaphore_of t s)) λ semaphores.
    first (λ r. r.mutexes) (each_one λ m l. mutex_right (mutex_of t m)) λ mutexes.
    first (λ r. r.groups) (each_one λ g l. group_right (group_of t g)) λ groups.
    first (λ r. r.channels) (each_one λ c l. channel_right (channel_of t c) (row_of t c)) λ channels.
    first (λ r. r.waits) (each_one λ i l. wait_right t i (task_of t i).state (task_of t i).object) λ waits.
    last (λ r. r.holders) (each_one λ m l. if_so (fails equals) equals) λ holders.
    record { semaphores = semaphores; mutexes = mutexes; groups = groups; channels = channels; waits = waits; holders = holders }

-- ---- queues

pub once_most : (b : Bool) → once b ≤ 1
once_most true = omega arith
once_most false = omega arith

-- What is past all that stands there does not stand there.
count_past : {n u : ℕ} {l : List ℕ} → n < u → All (λ v. v ≤ n) l → count u l ≡ 0
unfolding count
count_past h none = refl
count_past {n} {u} h (more {x} {xs} p a) = omega (arith, one_other u x (λ e. omega arith), count_past h a)

-- Where no id stands twice, the queue's own test says the rest.
whole : {keys l : List ℕ} {n : ℕ} → length keys ≡ n → Each n (λ i. count (written i) l ≤ 1) → Decides (is_ordered keys l) (All (λ v. v ≤ n) l × Ordered keys l)
whole {keys} {l} {n} e single =
    record {
      holds = λ h. let w = checked_whole keys l h in (all_map (λ v p. omega arith) w.within, w.ordered);
      passes = λ r. whole_checked (record { ordered = r.1; within = all_map (λ v p. omega arith) r.0; once = λ u h. ⊎_elim (λ m. omega (arith, count_past m r.0)) (inside h) (lt_or_le n u) });
    }
  where
    inside : {u : ℕ} → (u ≡ 0 → ⊥) → u ≤ n → count u l ≤ 1
    inside {u} h m = let s : written (u - 1) ≡ u = omega arith in rw s at (single (u - 1) (omega arith))

-- Each task has a key.
pub keyed : (t : Table) → Shaped t → length (works t) ≡ task_count
unfolding works
keyed t s = length-map t.tasks (λ k. k.work) ∙ s.tasks

pub queued : (t : Table) → Decides (is_sound_queues t) (SoundQueues t)
unfolding is_sound_queues
queued t =
    first (λ r. r.shaped) (shaped t) λ shaped.
    first (λ r. r.places) (each_one λ q l. each_one λ i m. equals) λ places.
    first
    (λ r q l. (r.nothing_else q l, r.ordered q l))
    (each_one λ q l. whole (keyed t shaped) (λ i m. omega (arith, places q l i m, once_most (eqb (place_of (task_of t i)) q))))
    λ order.
    last (λ r. r.ready) (ready t) λ word.
    record { shaped = shaped; places = places; nothing_else = λ q l. (order q l).0; ordered = λ q l. (order q l).1; ready = word }

-- ---- working priorities

-- Past the tasks nothing waits.
pub ends : (t : Table) → Shaped t → Ends task_count (next t)
unfolding next
ends t s j h = rw (get_or-eq_default t.tasks no_task {n = j} (omega arith)) (omega arith)

-- The working priority is tested against the one computed.
pub worked : {n : ℕ} {next : ℕ → ℕ} {base : ℕ → ℕ} {i p : ℕ} → Ends n next → i < n → Decides (eqb p (fresh n next base i)) (Fresh n next base i p)
worked {n} {next} {base} {i} {p} e l =
    last (λ f. fresh_one f (fresh_is base e l)) equals λ q. subst (Fresh n next base i) (sym q) (fresh_is base e l)

-- ---- the standing rules

pub numbers_right : (t : Table) → Decides (is_sound_numbers t) (SoundNumbers t)
unfolding is_sound_numbers
numbers_right t =
    first (λ s. s.tick) at_most λ tick.
    first (λ s. s.default_least) at_most λ default_least.
    first (λ s. s.default_most) at_most λ default_most.
    last (λ s. s.depth) at_most λ depth.
    record { tick = tick; default_least = default_least; default_most = default_most; depth = depth }

settled : (t : Table) → Decides (is_sound_within t) (SoundWithin t)
unfolding is_sound_within is_worked_out fresh_in
settled t =
    first (λ s. s.queued) (queued t) λ queued.
    first (λ s. s.worked) (each_one λ i l. worked (ends t queued.shaped) l) λ worked.
    first (λ s. s.tasks) (each_one λ i l. task_right (task_of t i)) λ tasks.
    first (λ s. s.objects) (objects_right t) λ objects.
    last (λ s. s.numbers) (numbers_right t) λ numbers.
    record { queued = queued; worked = worked; tasks = tasks; objects = objects; numbers = numbers }

pub runs : (t : Table) → Decides (is_sound_runs t) (SoundRuns t)
unfolding is_sound_runs
runs t =
    first (λ r. r.range) at_most λ range.
    first (λ r. r.first) (if_so equals equals) λ front.
    last (λ r. r.able) (if_so (fails equals) (either equals itself)) λ able.
    record { range = range; first = front; able = able }

pub sound : (t : Table) → Decides (is_sound t) (Sound t)
unfolding is_sound
sound t =
    first (λ s. s.settled) (settled t) λ settled.
    first (λ s. s.not_due) (each_one λ i l. if_so equals (fails equals)) λ not_due.
    last (λ s. s.runs) (runs t) λ runs.
    record { settled = settled; not_due = not_due; runs = runs }

pub sound-tested : {t : Table} → Sound t → is_sound t ≡ true
sound-tested {t} = (sound t).passes

pub tested-sound : (t : Table) → is_sound t ≡ true → Sound t
tested-sound t = (sound t).holds
