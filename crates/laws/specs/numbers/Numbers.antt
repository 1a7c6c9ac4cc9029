-- "Answer numbers", as a statement: for each number the calls that can get it and when, and the order in which the numbers come. The
-- answer is the first number in that order whose condition holds, and `Numbering` proves that it is what `step` answers.
-- To read it: each line of `Gets` is a row. Of `unlocked : t.depth ≡ 0 → Gets interrupt t not_locked Unlock` it says: where the
-- depth is 0, the condition of 12 holds of the call Unlock. No row names 12 and Lock, so Lock never gets it. `A → B → C` is "where A and
-- B, C", `≢` is "is not", and `Empty q t` is "no task stands in queue q". A row of `Deletes c f o force` is about each call c that deletes
-- number o of a family f, as SemaphoreDelete, MutexDelete, GroupDelete and ChannelDelete do, and `waiters_of f o` is the queue of that
-- number. What the port alone answers, 1 to a kind that the list lacks and 15 to an image of the wrong length, is no call here.
use Rattle.std.specs.Prelude.{◌≡◌, ◌⊎◌, ◌≢◌, Bool, true, false, List, [], ◌∷◌, ℕ, ◌≤◌, ◌<◌}
use Rattle.queue.specs.Slots.{first_at, same}
use Rattle.rules.specs.Sizes.{task_count, mutex_count, last_priority, most_quantum, most_nested, most_count, most_messages, test_count, delayed, done, beyond_range, not_in_use, in_use, bad_value, by_interrupt, none_running, while_locked, nothing_to_take, not_its_holder, nested_too_deep, count_full, not_locked, still_needed, blocks, not_sound, channel_full, not_suspended, not_delayed, no_waiter, no_peer}
use Rattle.rules.specs.Table.{Table, asking, task_of, semaphore_of, mutex_of, channel_of, written}
use Rattle.rules.specs.Time.{caller_of}
use Rattle.rules.specs.Family.{Family, waiters_of, semaphores, mutexes, groups, channels}
use Rattle.rules.specs.Group.{flags_of, is_met}
use Rattle.rules.specs.Sound.{Empty, Sound}
use Rattle.rules.specs.Step.{for_interrupts}
use Rattle.rules.specs.declared.Call.{Call}
use Rattle.rules.specs.declared.Call.TheVariants.{TaskCreate, TaskDelete, ChangePriority, Suspend, Resume, Yield, Delay, DelayResume, Lock, Unlock, SetDefaultQuantum, SemaphoreCreate, SemaphoreDelete, SemaphoreWait, SemaphorePost, SemaphoreAbort, MutexCreate, MutexDelete, MutexWait, MutexPost, MutexAbort, GroupCreate, GroupDelete, GroupWait, GroupPost, GroupAbort, ChannelCreate, ChannelDelete, ChannelWait, ChannelPost, ChannelAbort, ChannelFlush}
use Rattle.laws.specs.order.Order.{Peer}

-- ---- the order

-- "Order: 15, 5, 6, 1, 2 or 3, 4, then those of the call: a wait 8 before 7; yield 7 before 12; task delete 7 before 13", a post of a message
-- "16, after 4", and 17 to 20 "each in 12's place". Of 9 to 13 and 17 to 20 each call can get one number at most, so their order among
-- themselves does not matter. 14 and 0 come where nothing refuses.
unfoldable pub paper_order : List ℕ
paper_order =
    not_sound ∷ by_interrupt ∷ none_running ∷ beyond_range ∷ not_in_use ∷ in_use ∷ bad_value ∷ channel_full
    ∷ nothing_to_take ∷ while_locked ∷ not_its_holder ∷ nested_too_deep ∷ count_full
    ∷ not_locked ∷ not_suspended ∷ not_delayed ∷ no_waiter ∷ no_peer ∷ still_needed
    ∷ blocks ∷ done ∷ []

-- Where a number stands in that order.
unfoldable pub rank : ℕ → ℕ
rank n = first_at (same n) paper_order

-- ---- what calls are on

-- A thing that a call is on.
pub data Thing : Type 0 where
  task : ℕ → Thing
  object : Family → ℕ → Thing

-- How many of its kind there are.
unfoldable pub count_of : Thing → ℕ
count_of (task i) = task_count
count_of (object f o) = f.count

-- Its number.
unfoldable pub number_of : Thing → ℕ
number_of (task i) = i
number_of (object f o) = o

-- 1 where it is in use.
unfoldable pub used_in : Table → Thing → ℕ
used_in t (task i) = (task_of t i).used
used_in t (object f o) = f.used t o

-- The call creates it.
pub data Creates : Call → Thing → Type 0 where
  a_task : {i base quantum : ℕ} → Creates (TaskCreate i base quantum) (task i)
  a_semaphore : {s n : ℕ} → Creates (SemaphoreCreate s n) (object semaphores s)
  a_mutex : {m : ℕ} → Creates (MutexCreate m) (object mutexes m)
  a_group : {g flags : ℕ} → Creates (GroupCreate g flags) (object groups g)
  a_channel : {o capacity : ℕ} → Creates (ChannelCreate o capacity) (object channels o)

-- The call deletes number o of a family (`force`: also with waiters); waits for it (`block`: if need be); lets its first waiter go.
pub data Deletes : Call → Family → (o force : ℕ) → Type 0 where
  semaphore_delete : {s force : ℕ} → Deletes (SemaphoreDelete s force) semaphores s force
  mutex_delete : {m force : ℕ} → Deletes (MutexDelete m force) mutexes m force
  group_delete : {g force : ℕ} → Deletes (GroupDelete g force) groups g force
  channel_delete : {o force : ℕ} → Deletes (ChannelDelete o force) channels o force

pub data AsksFor : Call → Family → (o block : ℕ) → Type 0 where
  semaphore_wait : {s block limit : ℕ} → AsksFor (SemaphoreWait s block limit) semaphores s block
  mutex_wait : {m block limit : ℕ} → AsksFor (MutexWait m block limit) mutexes m block
  group_wait : {g block limit mask test consume : ℕ} → AsksFor (GroupWait g block limit mask test consume) groups g block
  channel_wait : {o block limit : ℕ} → AsksFor (ChannelWait o block limit) channels o block

pub data Aborts : Call → Family → (o : ℕ) → Type 0 where
  semaphore_abort : {s : ℕ} → Aborts (SemaphoreAbort s) semaphores s
  mutex_abort : {m : ℕ} → Aborts (MutexAbort m) mutexes m
  group_abort : {g : ℕ} → Aborts (GroupAbort g) groups g
  channel_abort : {o : ℕ} → Aborts (ChannelAbort o) channels o

-- The call is on it, and wants it in use.
pub data On : Call → Thing → Type 0 where
  task_delete : {i : ℕ} → On (TaskDelete i) (task i)
  change_priority : {i base : ℕ} → On (ChangePriority i base) (task i)
  suspend : {i : ℕ} → On (Suspend i) (task i)
  resume : {i : ℕ} → On (Resume i) (task i)
  delay_resume : {i : ℕ} → On (DelayResume i) (task i)
  to_delete : {c : Call} {f : Family} {o force : ℕ} → Deletes c f o force → On c (object f o)
  to_ask : {c : Call} {f : Family} {o block : ℕ} → AsksFor c f o block → On c (object f o)
  to_abort : {c : Call} {f : Family} {o : ℕ} → Aborts c f o → On c (object f o)
  semaphore_post : {s : ℕ} → On (SemaphorePost s) (object semaphores s)
  mutex_post : {m : ℕ} → On (MutexPost m) (object mutexes m)
  group_post : {g mask on : ℕ} → On (GroupPost g mask on) (object groups g)
  channel_post : {o message front : ℕ} → On (ChannelPost o message front) (object channels o)
  channel_flush : {o : ℕ} → On (ChannelFlush o) (object channels o)

-- A wait that finds nothing to take: at count 0, of a mutex that another task holds, of flags that do not meet its test, or of a channel
-- without a message.
pub data FindsNothing (t : Table) : (block : ℕ) → Call → Type 0 where
  counted : {s block limit : ℕ} → (semaphore_of t s).count ≡ 0 → FindsNothing t block (SemaphoreWait s block limit)
  held : {m block limit : ℕ} → (mutex_of t m).holder ≢ 0 → (mutex_of t m).holder ≢ written (caller_of t) → FindsNothing t block (MutexWait m block limit)
  unmet : {g block limit mask test consume : ℕ} → is_met (flags_of t g) (asking mask test consume) ≢ true → FindsNothing t block (GroupWait g block limit mask test consume)
  no_message : {o block limit : ℕ} → (channel_of t o).held ≡ 0 → FindsNothing t block (ChannelWait o block limit)

-- Task i holds a mutex.
pub record Holds (i : ℕ) (t : Table) : Type 0 where
  pub mutex : ℕ
  pub range : mutex < mutex_count
  pub holder : (mutex_of t mutex).holder ≡ written i

-- ---- the conditions, number by number

-- The condition of a number holds of a call.
pub data Gets (interrupt : Bool) (t : Table) : ℕ → Call → Type 0 where
  -- 15: "the table is not sound"
  unsound : {c : Call} → (Sound t → ⊥) → Gets interrupt t not_sound c
  -- 5: "made by an interrupt, and not a tick or a semaphore post", nor a post of flags or of a message
  interrupts : {c : Call} → interrupt ≡ true → for_interrupts c ≡ false → Gets interrupt t by_interrupt c
  -- 6: "yield, delay, semaphore or mutex wait, mutex post: none is running"
  yield_by_none : t.running ≡ 0 → Gets interrupt t none_running Yield
  delay_by_none : {n : ℕ} → t.running ≡ 0 → Gets interrupt t none_running (Delay n)
  wait_by_none : {c : Call} {f : Family} {o block : ℕ} → AsksFor c f o block → t.running ≡ 0 → Gets interrupt t none_running c
  mutex_post_by_none : {m : ℕ} → t.running ≡ 0 → Gets interrupt t none_running (MutexPost m)
  -- 1: "a task or object number beyond its range"
  beyond : {c : Call} {x : Thing} → On c x ⊎ Creates c x → count_of x ≤ number_of x → Gets interrupt t beyond_range c
  -- 2: "the number is not in use"
  unused : {c : Call} {x : Thing} → On c x → used_in t x ≢ 1 → Gets interrupt t not_in_use c
  -- 3: "create: the number is in use"
  used : {c : Call} {x : Thing} → Creates c x → used_in t x ≡ 1 → Gets interrupt t in_use c
  -- 4: "base priority above 62, a yes/no byte above 1, a delay of 0 ticks, or (port only) a quantum above 65,535"
  create_base : {i base quantum : ℕ} → last_priority < base → Gets interrupt t bad_value (TaskCreate i base quantum)
  change_base : {i base : ℕ} → last_priority < base → Gets interrupt t bad_value (ChangePriority i base)
  bad_force : {c : Call} {f : Family} {o force : ℕ} → Deletes c f o force → 1 < force → Gets interrupt t bad_value c
  bad_block : {c : Call} {f : Family} {o block : ℕ} → AsksFor c f o block → 1 < block → Gets interrupt t bad_value c
  no_ticks : {n : ℕ} → n ≡ 0 → Gets interrupt t bad_value (Delay n)
  create_quantum : {i base quantum : ℕ} → most_quantum < quantum → Gets interrupt t bad_value (TaskCreate i base quantum)
  -- "setting the default to 0 gets 4"; from the port a number above 65,535 too
  default_zero : {n : ℕ} → n ≡ 0 → Gets interrupt t bad_value (SetDefaultQuantum n)
  default_above : {n : ℕ} → most_quantum < n → Gets interrupt t bad_value (SetDefaultQuantum n)
  -- "a mask of 0 or a fifth test gets 4"; consume, and set or clear, are yes/no bytes
  wait_no_mask : {g block limit mask test consume : ℕ} → mask ≡ 0 → Gets interrupt t bad_value (GroupWait g block limit mask test consume)
  fifth_test : {g block limit mask test consume : ℕ} → test_count ≤ test → Gets interrupt t bad_value (GroupWait g block limit mask test consume)
  bad_consume : {g block limit mask test consume : ℕ} → 1 < consume → Gets interrupt t bad_value (GroupWait g block limit mask test consume)
  post_no_mask : {g mask on : ℕ} → mask ≡ 0 → Gets interrupt t bad_value (GroupPost g mask on)
  bad_on : {g mask on : ℕ} → 1 < on → Gets interrupt t bad_value (GroupPost g mask on)
  -- "capacity 0 or above 32 gets 4"; to the front or to the end is a yes/no byte
  bad_capacity : {o capacity : ℕ} → (capacity ≡ 0) ⊎ (most_messages < capacity) → Gets interrupt t bad_value (ChannelCreate o capacity)
  bad_front : {o message front : ℕ} → 1 < front → Gets interrupt t bad_value (ChannelPost o message front)
  -- 16: "for a post to a full queue"
  no_room : {o message front : ℕ} → (channel_of t o).capacity ≤ (channel_of t o).held → Gets interrupt t channel_full (ChannelPost o message front)
  -- 8: "a non-blocking wait finds nothing to take"
  non_blocking : {block : ℕ} {c : Call} → FindsNothing t block c → block ≡ 0 → Gets interrupt t nothing_to_take c
  -- 7: "lock depth above 0: yield, delay, a wait that would block, suspend or delete of the running task"
  locked_yield : t.depth ≢ 0 → Gets interrupt t while_locked Yield
  locked_delay : {n : ℕ} → t.depth ≢ 0 → Gets interrupt t while_locked (Delay n)
  locked_wait : {block : ℕ} {c : Call} → t.depth ≢ 0 → FindsNothing t block c → Gets interrupt t while_locked c
  locked_suspend : {i : ℕ} → t.depth ≢ 0 → t.running ≡ written i → Gets interrupt t while_locked (Suspend i)
  locked_delete : {i : ℕ} → t.depth ≢ 0 → t.running ≡ written i → Gets interrupt t while_locked (TaskDelete i)
  -- 9: "mutex post by a task that is not its holder"
  foreign : {m : ℕ} → (mutex_of t m).holder ≢ written (caller_of t) → Gets interrupt t not_its_holder (MutexPost m)
  -- 10: "the 251st nesting of a mutex, lock or suspend"
  nested_mutex : {m block limit : ℕ} → (mutex_of t m).holder ≡ written (caller_of t) → most_nested ≤ (mutex_of t m).nesting → Gets interrupt t nested_too_deep (MutexWait m block limit)
  nested_lock : most_nested ≤ t.depth → Gets interrupt t nested_too_deep Lock
  nested_suspend : {i : ℕ} → most_nested ≤ (task_of t i).suspend → Gets interrupt t nested_too_deep (Suspend i)
  -- 11: "semaphore post at count 4,294,967,295"
  full : {s : ℕ} → most_count ≤ (semaphore_of t s).count → Gets interrupt t count_full (SemaphorePost s)
  -- 12: "12 stays for unlock at depth 0"
  unlocked : t.depth ≡ 0 → Gets interrupt t not_locked Unlock
  -- 17: "resume of a task not suspended"
  unsuspended : {i : ℕ} → (task_of t i).suspend ≡ 0 → Gets interrupt t not_suspended (Resume i)
  -- 18: "delay resume of a task not delayed"
  undelayed : {i : ℕ} → (task_of t i).state ≢ delayed → Gets interrupt t not_delayed (DelayResume i)
  -- 19: "abort without a waiter", of every kind of object
  unawaited : {c : Call} {f : Family} {o : ℕ} → Aborts c f o → Empty (waiters_of f o) t → Gets interrupt t no_waiter c
  -- 20: "yield without a peer"
  alone : (Peer (caller_of t) t → ⊥) → Gets interrupt t no_peer Yield
  -- 13: "unforced delete of an object with waiters; delete of a task that holds a mutex"
  has_waiters : {c : Call} {f : Family} {o force : ℕ} → Deletes c f o force → force ≡ 0 → (Empty (waiters_of f o) t → ⊥) → Gets interrupt t still_needed c
  holder : {i : ℕ} → Holds i t → Gets interrupt t still_needed (TaskDelete i)
  -- 14: "a wait is accepted and blocks; a delay answers 0"
  waits : {block : ℕ} {c : Call} → FindsNothing t block c → Gets interrupt t blocks c
  -- 0: "done"
  accepted : {c : Call} → Gets interrupt t done c

-- The call is to be answered n: the condition of n holds, and that of no number before it in the order.
pub record Answered (n : ℕ) (c : Call) (interrupt : Bool) (t : Table) : Type 0 where
  pub holds : Gets interrupt t n c
  pub first : (m : ℕ) → Gets interrupt t m c → rank n ≤ rank m
