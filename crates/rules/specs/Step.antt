-- A call: its answer, its effect, and the step that the kernel makes.
use Rattle.std.specs.Prelude.{Bool, false, cond, not, ◌&&◌, ◌||◌, ℕ, ◌<◌, eqb, get_or}
use Rattle.rules.specs.Sizes.{ticks_round, done, by_interrupt, blocks, not_sound}
use Rattle.rules.specs.Table.{Table, asking}
use Rattle.rules.specs.Move.{chosen}
use Rattle.rules.specs.Task.{create_answer, create, delete_answer, delete, priority_answer, change_priority, suspend_answer, suspend, resume_answer, resume}
use Rattle.rules.specs.Time.{yield_answer, yield, delay_answer, delay, delay_resume_answer, delay_resume}
use Rattle.rules.specs.Lock.{lock_answer, lock, unlock_answer, unlock}
use Rattle.rules.specs.Quantum.{default_answer, set_default}
use Rattle.rules.specs.Object.{object_create_answer, object_delete_answer, object_delete, object_abort_answer, object_abort}
use Rattle.rules.specs.Semaphore as semaphore
use Rattle.rules.specs.Family.{semaphores, mutexes, groups, channels}
use Rattle.rules.specs.Mutex as mutex
use Rattle.rules.specs.Group as group
use Rattle.rules.specs.Channel.{flushed}
use Rattle.rules.specs.Channel as channel
use Rattle.rules.specs.Tick.{ticked}
use Rattle.rules.specs.Sound.{is_sound}
use Rattle.rules.specs.Kinds.{told_of, flush_kind, kind_of, numbers_of}
use Rattle.rules.specs.declared.Call.{Call}
use Rattle.rules.specs.declared.Call.TheVariants.{TaskCreate, TaskDelete, ChangePriority, Suspend, Resume, Yield, Delay, DelayResume, Lock, Unlock, Tick, SetDefaultQuantum, SemaphoreCreate, SemaphoreDelete, SemaphoreWait, SemaphorePost, SemaphoreAbort, MutexCreate, MutexDelete, MutexWait, MutexPost, MutexAbort, GroupCreate, GroupDelete, GroupWait, GroupPost, GroupAbort, ChannelCreate, ChannelDelete, ChannelWait, ChannelPost, ChannelAbort, ChannelFlush}

-- What a call made by a task is answered on a sound table. "Order: 15, 5, 6, 1, 2 or 3, 4, then those of the call".
unfoldable pub answer_to : Call → Table → ℕ
answer_to (TaskCreate i base quantum) t = create_answer i base quantum t
answer_to (TaskDelete i) t = delete_answer i t
answer_to (ChangePriority i base) t = priority_answer i base t
answer_to (Suspend i) t = suspend_answer i t
answer_to (Resume i) t = resume_answer i t
answer_to Yield t = yield_answer t
answer_to (Delay n) t = delay_answer n t
answer_to (DelayResume i) t = delay_resume_answer i t
answer_to Lock t = lock_answer t
answer_to Unlock t = unlock_answer t
answer_to Tick t = done
answer_to (SetDefaultQuantum n) t = default_answer n
answer_to (SemaphoreCreate s n) t = object_create_answer semaphores s t
answer_to (SemaphoreDelete s force) t = object_delete_answer semaphores s force t
answer_to (SemaphoreWait s block limit) t = semaphore.wait_answer s block t
answer_to (SemaphorePost s) t = semaphore.post_answer s t
answer_to (SemaphoreAbort s) t = object_abort_answer semaphores s t
answer_to (MutexCreate m) t = object_create_answer mutexes m t
answer_to (MutexDelete m force) t = object_delete_answer mutexes m force t
answer_to (MutexWait m block limit) t = mutex.wait_answer m block t
answer_to (MutexPost m) t = mutex.post_answer m t
answer_to (MutexAbort m) t = object_abort_answer mutexes m t
answer_to (GroupCreate g flags) t = object_create_answer groups g t
answer_to (GroupDelete g force) t = object_delete_answer groups g force t
answer_to (GroupWait g block limit mask test consume) t = group.wait_answer g block (asking mask test consume) t
answer_to (GroupPost g mask on) t = group.post_answer g mask on t
answer_to (GroupAbort g) t = object_abort_answer groups g t
answer_to (ChannelCreate c capacity) t = channel.create_answer c capacity t
answer_to (ChannelDelete c force) t = object_delete_answer channels c force t
answer_to (ChannelWait c block limit) t = channel.wait_answer c block t
answer_to (ChannelPost c message front) t = channel.post_answer c front t
answer_to (ChannelAbort c) t = object_abort_answer channels c t
answer_to (ChannelFlush c) t = channel.flush_answer c t

-- What it changes.
unfoldable pub change_by : Call → Table → Table
change_by (TaskCreate i base quantum) t = create i base quantum t
change_by (TaskDelete i) t = delete i t
change_by (ChangePriority i base) t = change_priority i base t
change_by (Suspend i) t = suspend i t
change_by (Resume i) t = resume i t
change_by Yield t = yield t
change_by (Delay n) t = delay n t
change_by (DelayResume i) t = delay_resume i t
change_by Lock t = lock t
change_by Unlock t = unlock t
change_by Tick t = ticked t
change_by (SetDefaultQuantum n) t = set_default n t
change_by (SemaphoreCreate s n) t = semaphore.create s n t
change_by (SemaphoreDelete s force) t = object_delete semaphores s t
change_by (SemaphoreWait s block limit) t = semaphore.wait s limit t
change_by (SemaphorePost s) t = semaphore.post s t
change_by (SemaphoreAbort s) t = object_abort semaphores s t
change_by (MutexCreate m) t = mutex.create m t
change_by (MutexDelete m force) t = object_delete mutexes m t
change_by (MutexWait m block limit) t = mutex.wait m limit t
change_by (MutexPost m) t = mutex.post m t
change_by (MutexAbort m) t = object_abort mutexes m t
change_by (GroupCreate g flags) t = group.create g flags t
change_by (GroupDelete g force) t = object_delete groups g t
change_by (GroupWait g block limit mask test consume) t = group.wait g limit (asking mask test consume) t
change_by (GroupPost g mask on) t = group.post g mask on t
change_by (GroupAbort g) t = object_abort groups g t
change_by (ChannelCreate c capacity) t = channel.create c capacity t
change_by (ChannelDelete c force) t = object_delete channels c t
change_by (ChannelWait c block limit) t = channel.wait c limit t
change_by (ChannelPost c message front) t = channel.post c message front t
change_by (ChannelAbort c) t = object_abort channels c t
change_by (ChannelFlush c) t = channel.flush c t

-- "Flush .. tells how many messages went in a further result, 0 otherwise"
unfoldable pub told_by : Call → Table → ℕ
told_by c t = cond (eqb (kind_of c) flush_kind) (flushed (get_or (numbers_of c) 0 0) t) 0

-- "made by an interrupt, and not a tick or a semaphore post", nor a post of flags or of a message: 5
unfoldable pub for_interrupts : Call → Bool
for_interrupts c = told_of (kind_of c) (λ r. r.interrupts) false

unfoldable pub answer : Call → Bool → Table → ℕ
answer c interrupt t = cond (interrupt && not (for_interrupts c)) by_interrupt (answer_to c t)

-- "Last, at depth 0, the first able task runs."
unfoldable pub effect : Call → Table → Table
effect c t = chosen (change_by c t)

-- "numbers have 32 bits"
unfoldable pub Bounded : Call → Type 0
Bounded c = (i : ℕ) → get_or (numbers_of c) i 0 < ticks_round

-- The answer, the new table, the task to run: its number plus 1, 0 for none; and the further result.
pub record Outcome : Type 0 where
  pub answer : ℕ
  pub table : Table
  pub runs : ℕ
  pub further : ℕ

-- "0 and 14 alone change anything."
abbrev pub changes : ℕ → Bool
changes n = eqb n done || eqb n blocks

-- A call on a sound table.
unfoldable pub serve : Call → Bool → Table → Outcome
serve c interrupt t =
    let n = answer c interrupt t in
    let new = effect c t in
    let after = cond (changes n) new t in
    record { answer = n; table = after; runs = after.running; further = cond (changes n) (told_by c t) 0 }

-- "the table is not sound": 15, and "With 15 the task to run is none."
abbrev pub unsound : Table → Outcome
unsound t = record { answer = not_sound; table = t; runs = 0; further = 0 }

unfoldable pub step : Call → Bool → Table → Outcome
step c interrupt t = let served = serve c interrupt t in cond (is_sound t) served (unsound t)
