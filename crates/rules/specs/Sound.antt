-- "Standing rules (a sound table)": each rule as a field, and beside it the test that computes. `Tested` ties the two together.
use Rattle.std.specs.Prelude.{◌≡◌, ◌⊎◌, ◌↔◌, Bool, true, false, cond, not, ◌&&◌, ◌||◌, List, [], ◌∷◌, ℕ, zero, suc, ◌-◌, ◌≤◌, ◌<◌, eqb, ltb, leb, length, get_or}
use Rattle.queue.specs.Order.{All, Ordered, count, is_ordered}
use Rattle.rules.specs.Sizes.{task_count, semaphore_count, mutex_count, group_count, channel_count, most_messages, greatest_message, last_priority, level_count, words_round, most_nested, most_quantum, most_count, ticks_round, flag_sets, test_count, plain, delayed, waits_flags, object_deleted}
use Rattle.rules.specs.Chain.{Fresh}
use Rattle.rules.specs.Table.{Table, task_of, semaphore_of, mutex_of, group_of, channel_of, row_of, queue_of, queue_count, able_queue, first_in, works, is_able, written, no_task, no_semaphore, no_mutex, no_group, no_channel}
use Rattle.rules.specs.Ready.{is_set, levels_below}
use Rattle.rules.specs.Move.{next, base_of, fresh_in}
use Rattle.rules.specs.Family.{Family, Among, families, last_state, objects_in, place_of}
use Rattle.rules.specs.declared.Task.{Task}
use Rattle.rules.specs.declared.Semaphore.{Semaphore}
use Rattle.rules.specs.declared.Mutex.{Mutex}
use Rattle.rules.specs.declared.Group.{Group}
use Rattle.rules.specs.declared.Channel.{Channel}

-- ---- each number below n

abbrev pub Each : ℕ → (ℕ → Type 0) → Type 0
Each n P = (i : ℕ) → i < n → P i

unfoldable pub each : ℕ → (ℕ → Bool) → Bool
each zero p = true
each (suc n) p = let before = each n p in cond (p n) before false

-- Each family of the list.
unfoldable pub each_of : List Family → (Family → Bool) → Bool
each_of [] p = true
each_of (f ∷ fs) p = let others = each_of fs p in cond (p f) others false

-- Where a holds, b does.
abbrev pub implies : Bool → Bool → Bool
implies a b = cond a b true

-- 1 for yes, 0 for no.
abbrev pub once : Bool → ℕ
once b = cond b 1 0

-- The queue is empty. (Queues are packed, so its front slot tells.)
abbrev pub Empty : ℕ → Table → Type 0
Empty q t = first_in q t ≡ 0

-- ---- the lists are as long as the paper's sizes say

pub record Shaped (t : Table) : Type 0 where
  pub tasks : length t.tasks ≡ task_count
  pub semaphores : length t.semaphores ≡ semaphore_count
  pub mutexes : length t.mutexes ≡ mutex_count
  pub groups : length t.groups ≡ group_count
  pub channels : length t.channels ≡ channel_count
  pub queues : length t.queues ≡ queue_count
  pub slots : Each queue_count (λ q. length (queue_of t q) ≡ task_count)
  pub messages : length t.messages ≡ channel_count
  pub rows : Each channel_count (λ c. length (row_of t c) ≡ most_messages)

unfoldable pub is_shaped : Table → Bool
is_shaped t =
    eqb (length t.tasks) task_count
    && (eqb (length t.semaphores) semaphore_count
    && (eqb (length t.mutexes) mutex_count
    && (eqb (length t.groups) group_count
    && (eqb (length t.channels) channel_count
    && (eqb (length t.queues) queue_count
    && (each queue_count (λ q. eqb (length (queue_of t q)) task_count)
    && (eqb (length t.messages) channel_count
    && each channel_count (λ c. eqb (length (row_of t c)) most_messages))))))))

-- ---- "All fields are in range"

-- How many numbers a due mark may have: none but 0 where there is none.
unfoldable pub marks_in : ℕ → ℕ
marks_in marked = cond (eqb marked 0) 1 ticks_round

-- How many numbers what is asked of flags may have: n, and none but 0 where the task waits for no flags.
unfoldable pub asks_in : (state n : ℕ) → ℕ
asks_in state n = cond (eqb state waits_flags) n 1

pub record TaskInRange (k : Task) : Type 0 where
  pub used : k.used ≤ 1
  pub base : k.base ≤ last_priority
  pub work : k.work ≤ last_priority
  pub suspend : k.suspend ≤ most_nested
  pub quantum : k.quantum ≤ most_quantum
  pub left : k.left ≤ most_quantum
  pub state : k.state ≤ last_state
  pub object : k.object < objects_in k.state
  pub marked : k.marked ≤ 1
  pub due : k.due < marks_in k.marked
  pub outcome : k.outcome ≤ object_deleted
  pub mask : k.mask < asks_in k.state flag_sets
  pub test : k.test < asks_in k.state test_count
  pub consume : k.consume < asks_in k.state 2
  pub message : k.message ≤ greatest_message

unfoldable pub is_task_in_range : Task → Bool
is_task_in_range k =
    leb k.used 1
    && (leb k.base last_priority
    && (leb k.work last_priority
    && (leb k.suspend most_nested
    && (leb k.quantum most_quantum
    && (leb k.left most_quantum
    && (leb k.state last_state
    && (ltb k.object (objects_in k.state)
    && (leb k.marked 1
    && (ltb k.due (marks_in k.marked)
    && (leb k.outcome object_deleted
    && (ltb k.mask (asks_in k.state flag_sets)
    && (ltb k.test (asks_in k.state test_count)
    && (ltb k.consume (asks_in k.state 2)
    && leb k.message greatest_message)))))))))))))

-- ---- "a free number has zero fields"

-- Every field of the record is 0.
unfoldable pub is_no_task : Task → Bool
is_no_task k =
    eqb k.used 0
    && (eqb k.base 0
    && (eqb k.work 0
    && (eqb k.suspend 0
    && (eqb k.quantum 0
    && (eqb k.left 0
    && (eqb k.state 0
    && (eqb k.object 0
    && (eqb k.marked 0
    && (eqb k.due 0
    && (eqb k.outcome 0
    && (eqb k.mask 0
    && (eqb k.test 0
    && (eqb k.consume 0
    && eqb k.message 0)))))))))))))

unfoldable pub is_no_semaphore : Semaphore → Bool
is_no_semaphore x = eqb x.used 0 && eqb x.count 0

unfoldable pub is_no_mutex : Mutex → Bool
is_no_mutex x = eqb x.used 0 && (eqb x.holder 0 && eqb x.nesting 0)

unfoldable pub is_no_group : Group → Bool
is_no_group x = eqb x.used 0 && eqb x.flags 0

unfoldable pub is_no_channel : Channel → Bool
is_no_channel x = eqb x.used 0 && (eqb x.capacity 0 && eqb x.held 0)

-- ---- a task

pub record SoundTask (k : Task) : Type 0 where
  -- "All fields are in range; a free number has zero fields"
  pub in_range : TaskInRange k
  pub free_zero : k.used ≡ 0 → k ≡ no_task
  -- "A plain task has no due mark, a delayed one has one", "What is left is at most the quantum."
  pub plain_mark : k.state ≡ plain → k.marked ≡ 0
  pub delay_mark : k.state ≡ delayed → k.marked ≡ 1
  pub left : k.left ≤ k.quantum
  -- "a mask of 0 .. gets 4", so no waiter has one
  pub asks : k.state ≡ waits_flags → 1 ≤ k.mask
  -- "A sound table then has no task in use with quantum 0."
  pub turn : k.used ≡ 1 → 1 ≤ k.quantum

unfoldable pub is_sound_task : Task → Bool
is_sound_task k =
    is_task_in_range k
    && (implies (eqb k.used 0) (is_no_task k)
    && (implies (eqb k.state plain) (eqb k.marked 0)
    && (implies (eqb k.state delayed) (eqb k.marked 1)
    && (leb k.left k.quantum
    && (implies (eqb k.state waits_flags) (leb 1 k.mask)
    && implies (eqb k.used 1) (leb 1 k.quantum))))))

abbrev pub SoundTasks : Table → Type 0
SoundTasks t = Each task_count (λ i. SoundTask (task_of t i))

-- ---- an object

pub record SoundSemaphore (x : Semaphore) : Type 0 where
  pub used : x.used ≤ 1
  pub count : x.count ≤ most_count
  pub free : x.used ≡ 0 → x ≡ no_semaphore

unfoldable pub is_sound_semaphore : Semaphore → Bool
is_sound_semaphore x = leb x.used 1 && (leb x.count most_count && implies (eqb x.used 0) (is_no_semaphore x))

-- "A free mutex has nesting 0"; a held one has "a nesting of 1 to 250"
pub record SoundMutex (x : Mutex) : Type 0 where
  pub used : x.used ≤ 1
  pub holder : x.holder ≤ task_count
  pub nesting : x.nesting ≤ most_nested
  pub free : x.used ≡ 0 → x ≡ no_mutex
  pub unheld : x.holder ≡ 0 → x.nesting ≡ 0
  pub held : (x.holder ≡ 0 → ⊥) → 1 ≤ x.nesting

unfoldable pub is_sound_mutex : Mutex → Bool
is_sound_mutex x =
    leb x.used 1
    && (leb x.holder task_count
    && (leb x.nesting most_nested
    && (implies (eqb x.used 0) (is_no_mutex x)
    && (implies (eqb x.holder 0) (eqb x.nesting 0)
    && implies (not (eqb x.holder 0)) (leb 1 x.nesting)))))

pub record SoundGroup (x : Group) : Type 0 where
  pub used : x.used ≤ 1
  pub flags : x.flags < flag_sets
  pub free : x.used ≡ 0 → x ≡ no_group

unfoldable pub is_sound_group : Group → Bool
is_sound_group x = leb x.used 1 && (ltb x.flags flag_sets && implies (eqb x.used 0) (is_no_group x))

-- "the capacity 1 to 32 fixed at creation", "up to 32 messages, each a 32-bit number": a channel with its row. The messages stand packed from the
-- first slot on, and a slot without one is 0.
pub record SoundChannel (x : Channel) (row : List ℕ) : Type 0 where
  pub used : x.used ≤ 1
  pub capacity : x.capacity ≤ most_messages
  pub held : x.held ≤ x.capacity
  pub free : x.used ≡ 0 → x ≡ no_channel
  pub room : x.used ≡ 1 → 1 ≤ x.capacity
  pub messages : Each most_messages (λ j. get_or row j 0 ≤ greatest_message)
  pub unused : Each most_messages (λ j. x.held ≤ j → get_or row j 0 ≡ 0)

unfoldable pub is_sound_channel : Channel → List ℕ → Bool
is_sound_channel x row =
    leb x.used 1
    && (leb x.capacity most_messages
    && (leb x.held x.capacity
    && (implies (eqb x.used 0) (is_no_channel x)
    && (implies (eqb x.used 1) (leb 1 x.capacity)
    && (each most_messages (λ j. leb (get_or row j 0) greatest_message)
    && each most_messages (λ j. implies (leb x.held j) (eqb (get_or row j 0) 0)))))))

-- Task i may wait for number o of the family: "Waited-for objects are in use"; what has something to take has no waiter ("A free mutex has
-- .. no waiter", "a semaphore with a waiter has count 0", "A queue
-- with a waiter is empty"); "a holder .. does not wait for the mutex it holds".
pub record MayWait (f : Family) (t : Table) (i o : ℕ) : Type 0 where
  pub used : f.used t o ≡ 1
  pub nothing : f.offers t o ≡ true → ⊥
  pub apart : f.holder t o ≡ i → ⊥

unfoldable pub may_wait : Family → Table → ℕ → ℕ → Bool
may_wait f t i o = eqb (f.used t o) 1 && (not (f.offers t o) && not (eqb (f.holder t o) i))

-- Task i may be in that state, for that object: whichever family the state is of, it may wait for that number.
abbrev pub SoundWait : Table → (i state object : ℕ) → Type 0
SoundWait t i state object = (f : Family) → Among f families → state ≡ f.state → MayWait f t i object

unfoldable pub is_sound_wait : Table → (i state object : ℕ) → Bool
is_sound_wait t i state object = each_of families (λ f. implies (eqb state f.state) (may_wait f t i object))

pub record SoundObjects (t : Table) : Type 0 where
  pub semaphores : Each semaphore_count (λ s. SoundSemaphore (semaphore_of t s))
  pub mutexes : Each mutex_count (λ m. SoundMutex (mutex_of t m))
  pub groups : Each group_count (λ g. SoundGroup (group_of t g))
  pub channels : Each channel_count (λ c. SoundChannel (channel_of t c) (row_of t c))
  pub waits : Each task_count (λ i. SoundWait t i (task_of t i).state (task_of t i).object)
  -- "a holder is in use"
  pub holders : Each mutex_count (λ m. ((mutex_of t m).holder ≡ 0 → ⊥) → (task_of t ((mutex_of t m).holder - 1)).used ≡ 1)

unfoldable pub is_sound_objects : Table → Bool
is_sound_objects t =
    each semaphore_count (λ s. is_sound_semaphore (semaphore_of t s))
    && (each mutex_count (λ m. is_sound_mutex (mutex_of t m))
    && (each group_count (λ g. is_sound_group (group_of t g))
    && (each channel_count (λ c. is_sound_channel (channel_of t c) (row_of t c))
    && (each task_count (λ i. is_sound_wait t i (task_of t i).state (task_of t i).object)
    && each mutex_count (λ m. implies (not (eqb (mutex_of t m).holder 0)) (eqb (task_of t ((mutex_of t m).holder - 1)).used 1))))))

-- ---- the word of ready levels

-- Level l has an able task.
pub record HasAble (l : ℕ) (t : Table) : Type 0 where
  pub task : ℕ
  pub range : task < task_count
  pub able : is_able (task_of t task) ≡ true
  pub level : (task_of t task).work ≡ l

-- "a level's bit is set exactly if that level has an able task". There is no level 63, so the lowest bit is never set.
pub record SoundReady (t : Table) : Type 0 where
  pub word : t.ready < words_round
  pub levels : Each level_count (λ l. (is_set l t.ready ≡ true) ↔ HasAble l t)

unfoldable pub is_sound_ready : Table → Bool
is_sound_ready t = eqb t.ready (levels_below task_count t)

-- ---- the queues

-- "The able queue holds each able task once and nothing else; each object's queue holds each of its waiters once and nothing else." "Queues
-- are ordered."
pub record SoundQueues (t : Table) : Type 0 where
  pub shaped : Shaped t
  pub places : Each queue_count (λ q. Each task_count (λ i. count (written i) (queue_of t q) ≡ once (eqb (place_of (task_of t i)) q)))
  pub nothing_else : Each queue_count (λ q. All (λ v. v ≤ task_count) (queue_of t q))
  pub ordered : Each queue_count (λ q. Ordered (works t) (queue_of t q))
  pub ready : SoundReady t

unfoldable pub is_sound_queues : Table → Bool
is_sound_queues t =
    is_shaped t
    && (each queue_count (λ q. each task_count (λ i. eqb (count (written i) (queue_of t q)) (once (eqb (place_of (task_of t i)) q))))
    && (each queue_count (λ q. is_ordered (works t) (queue_of t q))
    && is_sound_ready t))

-- ---- the working priorities

-- "Working priorities equal those worked out afresh (mission, 3)."
abbrev pub WorkedOut : Table → Type 0
WorkedOut t = Each task_count (λ i. Fresh task_count (next t) (base_of t) i (task_of t i).work)

unfoldable pub is_worked_out : Table → Bool
is_worked_out t = each task_count (λ i. eqb (task_of t i).work (fresh_in t i))

-- ---- the single numbers

pub record SoundNumbers (t : Table) : Type 0 where
  pub tick : t.tick < ticks_round
  -- "a default quantum, 1 to 65,535"
  pub default_least : 1 ≤ t.default_quantum
  pub default_most : t.default_quantum ≤ most_quantum
  pub depth : t.depth ≤ most_nested

unfoldable pub is_sound_numbers : Table → Bool
is_sound_numbers t = ltb t.tick ticks_round && (leb 1 t.default_quantum && (leb t.default_quantum most_quantum && leb t.depth most_nested))

-- ---- what each move of a call keeps

pub record SoundWithin (t : Table) : Type 0 where
  pub queued : SoundQueues t
  pub worked : WorkedOut t
  pub tasks : SoundTasks t
  pub objects : SoundObjects t
  pub numbers : SoundNumbers t

unfoldable pub is_sound_within : Table → Bool
is_sound_within t =
    is_sound_queues t
    && (is_worked_out t
    && (each task_count (λ i. is_sound_task (task_of t i))
    && (is_sound_objects t
    && is_sound_numbers t)))

-- ---- what holds between calls alone

-- "no mark equals the tick counter"
abbrev pub NotDue : Table → Type 0
NotDue t = Each task_count (λ i. (task_of t i).marked ≡ 1 → (task_of t i).due ≡ t.tick → ⊥)

-- "At lock depth 0 the running task is the first of the able queue, or none if that is empty; at greater depth it is an able task
-- or none."
pub record SoundRuns (t : Table) : Type 0 where
  pub range : t.running ≤ task_count
  pub first : t.depth ≡ 0 → t.running ≡ first_in able_queue t
  pub able : (t.depth ≡ 0 → ⊥) → (t.running ≡ 0) ⊎ (is_able (task_of t (t.running - 1)) ≡ true)

unfoldable pub is_sound_runs : Table → Bool
is_sound_runs t =
    leb t.running task_count
    && (implies (eqb t.depth 0) (eqb t.running (first_in able_queue t))
    && implies (not (eqb t.depth 0)) (eqb t.running 0 || is_able (task_of t (t.running - 1))))

-- ---- the standing rules

pub record Sound (t : Table) : Type 0 where
  pub settled : SoundWithin t
  pub not_due : NotDue t
  pub runs : SoundRuns t

unfoldable pub is_sound : Table → Bool
is_sound t =
    is_sound_within t
    && (each task_count (λ i. implies (eqb (task_of t i).marked 1) (not (eqb (task_of t i).due t.tick)))
    && is_sound_runs t)
