-- "The table and its sizes". Every field is a number, so that each image of the right length shows some table; which tables are
-- sound is said in `Sound`.
use Rattle.std.specs.Prelude.{Bool, cond, ◌&&◌, List, [], map, ℕ, ◌+◌, ◌-◌, eqb, get_or, set, replicate}
use Rattle.rules.specs.Sizes.{task_count, semaphore_count, mutex_count, group_count, channel_count, most_messages, plain, fresh_quantum}
use Rattle.rules.specs.declared.Task.{Task}
use Rattle.rules.specs.declared.Semaphore.{Semaphore}
use Rattle.rules.specs.declared.Mutex.{Mutex}
use Rattle.rules.specs.declared.Group.{Group}
use Rattle.rules.specs.declared.Channel.{Channel}

-- Where "none" may stand, a task's number is written plus 1, and none is 0: a holder, the running task, a slot of a queue.
abbrev pub written : ℕ → ℕ
written i = i + 1

-- The tasks, semaphores, mutexes, groups of flags and channels, free or in use; one list of queues; tick counter, default quantum, lock depth and
-- the running task; the word of ready levels; and a row of messages for each channel.
pub record Table : Type 0 where
  pub tasks : List Task
  pub semaphores : List Semaphore
  pub mutexes : List Mutex
  pub groups : List Group
  pub channels : List Channel
  pub queues : List (List ℕ)
  pub tick : ℕ
  pub default_quantum : ℕ
  pub depth : ℕ
  pub running : ℕ
  pub ready : ℕ
  pub messages : List (List ℕ)

-- ---- free numbers: "a free number has zero fields"

abbrev pub no_task : Task
no_task = record { used = 0; base = 0; work = 0; suspend = 0; quantum = 0; left = 0; state = 0; object = 0; marked = 0; due = 0; outcome = 0; mask = 0; test = 0; consume = 0; message = 0 }

abbrev pub no_semaphore : Semaphore
no_semaphore = record { used = 0; count = 0 }

abbrev pub no_mutex : Mutex
no_mutex = record { used = 0; holder = 0; nesting = 0 }

abbrev pub no_group : Group
no_group = record { used = 0; flags = 0 }

abbrev pub no_channel : Channel
no_channel = record { used = 0; capacity = 0; held = 0 }

-- ---- "A wait names a mask and one of four tests ..; it may consume the flags that met the test."

pub record Asked : Type 0 where
  pub mask : ℕ
  pub test : ℕ
  pub consume : ℕ

abbrev pub asking : (mask test consume : ℕ) → Asked
asking mask test consume = record { mask = mask; test = test; consume = consume }

-- What a wait for another object asks, and a task that waits for none.
abbrev pub nothing_asked : Asked
nothing_asked = asking 0 0 0

-- ---- one field changed: only these write a record out whole

abbrev pub with_used : ℕ → Task → Task
with_used x k = record { used = x; base = k.base; work = k.work; suspend = k.suspend; quantum = k.quantum; left = k.left; state = k.state; object = k.object; marked = k.marked; due = k.due; outcome = k.outcome; mask = k.mask; test = k.test; consume = k.consume; message = k.message }

abbrev pub with_base : ℕ → Task → Task
with_base x k = record { used = k.used; base = x; work = k.work; suspend = k.suspend; quantum = k.quantum; left = k.left; state = k.state; object = k.object; marked = k.marked; due = k.due; outcome = k.outcome; mask = k.mask; test = k.test; consume = k.consume; message = k.message }

abbrev pub with_work : ℕ → Task → Task
with_work x k = record { used = k.used; base = k.base; work = x; suspend = k.suspend; quantum = k.quantum; left = k.left; state = k.state; object = k.object; marked = k.marked; due = k.due; outcome = k.outcome; mask = k.mask; test = k.test; consume = k.consume; message = k.message }

abbrev pub with_suspend : ℕ → Task → Task
with_suspend x k = record { used = k.used; base = k.base; work = k.work; suspend = x; quantum = k.quantum; left = k.left; state = k.state; object = k.object; marked = k.marked; due = k.due; outcome = k.outcome; mask = k.mask; test = k.test; consume = k.consume; message = k.message }

abbrev pub with_quantum : ℕ → Task → Task
with_quantum x k = record { used = k.used; base = k.base; work = k.work; suspend = k.suspend; quantum = x; left = k.left; state = k.state; object = k.object; marked = k.marked; due = k.due; outcome = k.outcome; mask = k.mask; test = k.test; consume = k.consume; message = k.message }

abbrev pub with_left : ℕ → Task → Task
with_left x k = record { used = k.used; base = k.base; work = k.work; suspend = k.suspend; quantum = k.quantum; left = x; state = k.state; object = k.object; marked = k.marked; due = k.due; outcome = k.outcome; mask = k.mask; test = k.test; consume = k.consume; message = k.message }

-- the state with the number of the object waited for, 0 where none is; nothing is asked of flags
abbrev pub with_state : ℕ → ℕ → Task → Task
with_state x o k = record { used = k.used; base = k.base; work = k.work; suspend = k.suspend; quantum = k.quantum; left = k.left; state = x; object = o; marked = k.marked; due = k.due; outcome = k.outcome; mask = 0; test = 0; consume = 0; message = k.message }

-- what is asked of the flags that it waits for
abbrev pub with_asked : Asked → Task → Task
with_asked a k = record { used = k.used; base = k.base; work = k.work; suspend = k.suspend; quantum = k.quantum; left = k.left; state = k.state; object = k.object; marked = k.marked; due = k.due; outcome = k.outcome; mask = a.mask; test = a.test; consume = a.consume; message = k.message }

-- 1 and the due mark, or 0 and 0 for none
abbrev pub with_mark : ℕ → ℕ → Task → Task
with_mark x d k = record { used = k.used; base = k.base; work = k.work; suspend = k.suspend; quantum = k.quantum; left = k.left; state = k.state; object = k.object; marked = x; due = d; outcome = k.outcome; mask = k.mask; test = k.test; consume = k.consume; message = k.message }

abbrev pub with_outcome : ℕ → Task → Task
with_outcome x k = record { used = k.used; base = k.base; work = k.work; suspend = k.suspend; quantum = k.quantum; left = k.left; state = k.state; object = k.object; marked = k.marked; due = k.due; outcome = x; mask = k.mask; test = k.test; consume = k.consume; message = k.message }

-- the message that it was given
abbrev pub with_message : ℕ → Task → Task
with_message x k = record { used = k.used; base = k.base; work = k.work; suspend = k.suspend; quantum = k.quantum; left = k.left; state = k.state; object = k.object; marked = k.marked; due = k.due; outcome = k.outcome; mask = k.mask; test = k.test; consume = k.consume; message = x }

abbrev pub with_count : ℕ → Semaphore → Semaphore
with_count n x = record { used = x.used; count = n }

-- the task written h, 0 for none, so many times over
abbrev pub with_hold : ℕ → ℕ → Mutex → Mutex
with_hold h n x = record { used = x.used; holder = h; nesting = n }

abbrev pub with_flags : ℕ → Group → Group
with_flags n x = record { used = x.used; flags = n }

abbrev pub with_held : ℕ → Channel → Channel
with_held n x = record { used = x.used; capacity = x.capacity; held = n }

abbrev pub counting : ℕ → Semaphore
counting n = record { used = 1; count = n }

-- held by the task written h, 0 for none, so many times over
abbrev pub held_by : ℕ → ℕ → Mutex
held_by h n = record { used = 1; holder = h; nesting = n }

abbrev pub flagged : ℕ → Group
flagged n = record { used = 1; flags = n }

-- of that capacity, and without a message
abbrev pub room_for : ℕ → Channel
room_for n = record { used = 1; capacity = n; held = 0 }

abbrev pub with_tasks : List Task → Table → Table
with_tasks x t = record { tasks = x; semaphores = t.semaphores; mutexes = t.mutexes; groups = t.groups; channels = t.channels; queues = t.queues; tick = t.tick; default_quantum = t.default_quantum; depth = t.depth; running = t.running; ready = t.ready; messages = t.messages }

abbrev pub with_semaphores : List Semaphore → Table → Table
with_semaphores x t = record { tasks = t.tasks; semaphores = x; mutexes = t.mutexes; groups = t.groups; channels = t.channels; queues = t.queues; tick = t.tick; default_quantum = t.default_quantum; depth = t.depth; running = t.running; ready = t.ready; messages = t.messages }

abbrev pub with_mutexes : List Mutex → Table → Table
with_mutexes x t = record { tasks = t.tasks; semaphores = t.semaphores; mutexes = x; groups = t.groups; channels = t.channels; queues = t.queues; tick = t.tick; default_quantum = t.default_quantum; depth = t.depth; running = t.running; ready = t.ready; messages = t.messages }

abbrev pub with_groups : List Group → Table → Table
with_groups x t = record { tasks = t.tasks; semaphores = t.semaphores; mutexes = t.mutexes; groups = x; channels = t.channels; queues = t.queues; tick = t.tick; default_quantum = t.default_quantum; depth = t.depth; running = t.running; ready = t.ready; messages = t.messages }

abbrev pub with_channels : List Channel → Table → Table
with_channels x t = record { tasks = t.tasks; semaphores = t.semaphores; mutexes = t.mutexes; groups = t.groups; channels = x; queues = t.queues; tick = t.tick; default_quantum = t.default_quantum; depth = t.depth; running = t.running; ready = t.ready; messages = t.messages }

abbrev pub with_queues : List (List ℕ) → Table → Table
with_queues x t = record { tasks = t.tasks; semaphores = t.semaphores; mutexes = t.mutexes; groups = t.groups; channels = t.channels; queues = x; tick = t.tick; default_quantum = t.default_quantum; depth = t.depth; running = t.running; ready = t.ready; messages = t.messages }

abbrev pub with_tick : ℕ → Table → Table
with_tick x t = record { tasks = t.tasks; semaphores = t.semaphores; mutexes = t.mutexes; groups = t.groups; channels = t.channels; queues = t.queues; tick = x; default_quantum = t.default_quantum; depth = t.depth; running = t.running; ready = t.ready; messages = t.messages }

abbrev pub with_default_quantum : ℕ → Table → Table
with_default_quantum x t = record { tasks = t.tasks; semaphores = t.semaphores; mutexes = t.mutexes; groups = t.groups; channels = t.channels; queues = t.queues; tick = t.tick; default_quantum = x; depth = t.depth; running = t.running; ready = t.ready; messages = t.messages }

abbrev pub with_depth : ℕ → Table → Table
with_depth x t = record { tasks = t.tasks; semaphores = t.semaphores; mutexes = t.mutexes; groups = t.groups; channels = t.channels; queues = t.queues; tick = t.tick; default_quantum = t.default_quantum; depth = x; running = t.running; ready = t.ready; messages = t.messages }

abbrev pub with_running : ℕ → Table → Table
with_running x t = record { tasks = t.tasks; semaphores = t.semaphores; mutexes = t.mutexes; groups = t.groups; channels = t.channels; queues = t.queues; tick = t.tick; default_quantum = t.default_quantum; depth = t.depth; running = x; ready = t.ready; messages = t.messages }

abbrev pub with_ready : ℕ → Table → Table
with_ready x t = record { tasks = t.tasks; semaphores = t.semaphores; mutexes = t.mutexes; groups = t.groups; channels = t.channels; queues = t.queues; tick = t.tick; default_quantum = t.default_quantum; depth = t.depth; running = t.running; ready = x; messages = t.messages }

abbrev pub with_messages : List (List ℕ) → Table → Table
with_messages x t = record { tasks = t.tasks; semaphores = t.semaphores; mutexes = t.mutexes; groups = t.groups; channels = t.channels; queues = t.queues; tick = t.tick; default_quantum = t.default_quantum; depth = t.depth; running = t.running; ready = t.ready; messages = x }

-- one task, object or queue changed, or the row of one channel

abbrev pub with_task : ℕ → Task → Table → Table
with_task i k t = with_tasks (set t.tasks i k) t

abbrev pub with_semaphore : ℕ → Semaphore → Table → Table
with_semaphore s x t = with_semaphores (set t.semaphores s x) t

abbrev pub with_mutex : ℕ → Mutex → Table → Table
with_mutex m x t = with_mutexes (set t.mutexes m x) t

abbrev pub with_group : ℕ → Group → Table → Table
with_group g x t = with_groups (set t.groups g x) t

abbrev pub with_channel : ℕ → Channel → Table → Table
with_channel c x t = with_channels (set t.channels c x) t

abbrev pub with_queue : ℕ → List ℕ → Table → Table
with_queue q l t = with_queues (set t.queues q l) t

abbrev pub with_row : ℕ → List ℕ → Table → Table
with_row c l t = with_messages (set t.messages c l) t

-- ---- parts of a table

abbrev pub task_of : Table → ℕ → Task
task_of t i = get_or t.tasks i no_task

abbrev pub semaphore_of : Table → ℕ → Semaphore
semaphore_of t s = get_or t.semaphores s no_semaphore

abbrev pub mutex_of : Table → ℕ → Mutex
mutex_of t m = get_or t.mutexes m no_mutex

abbrev pub group_of : Table → ℕ → Group
group_of t g = get_or t.groups g no_group

abbrev pub channel_of : Table → ℕ → Channel
channel_of t c = get_or t.channels c no_channel

abbrev pub asked_by : Task → Asked
asked_by k = asking k.mask k.test k.consume

abbrev pub queue_of : Table → ℕ → List ℕ
queue_of t q = get_or t.queues q []

abbrev pub row_of : Table → ℕ → List ℕ
row_of t c = get_or t.messages c []

-- The task that holds mutex m; `task_count`, which is no task, for none.
unfoldable pub holder_of : Table → ℕ → ℕ
holder_of t m = cond (eqb (mutex_of t m).holder 0) task_count ((mutex_of t m).holder - 1)

-- "Queues: the able tasks, and the waiters of each object." The able queue first, then the semaphores', then the mutexes', then
-- the groups', then the channels'.
abbrev pub able_queue : ℕ
able_queue = 0

abbrev pub semaphore_queue : ℕ → ℕ
semaphore_queue s = able_queue + 1 + s

abbrev pub mutex_queue : ℕ → ℕ
mutex_queue m = semaphore_queue semaphore_count + m

abbrev pub group_queue : ℕ → ℕ
group_queue g = mutex_queue mutex_count + g

abbrev pub channel_queue : ℕ → ℕ
channel_queue c = group_queue group_count + c

abbrev pub queue_count : ℕ
queue_count = channel_queue channel_count

-- "A number is in use or free"
abbrev pub is_used : ℕ → Bool
is_used used = eqb used 1

-- "A task is able if it is in use, plain and its suspend count is 0."
unfoldable pub is_able : Task → Bool
is_able k = is_used k.used && (eqb k.state plain && eqb k.suspend 0)

-- The working priorities, which are the keys of every queue.
unfoldable pub works : Table → List ℕ
works t = map (λ k. k.work) t.tasks

-- The task written in slot k of a queue, 0 for none; in the front slot.
abbrev pub slot_in : (q k : ℕ) → Table → ℕ
slot_in q k t = get_or (queue_of t q) k 0

abbrev pub first_in : ℕ → Table → ℕ
first_in q t = slot_in q 0 t

-- "The fresh table: nothing in use, all numbers 0, none running"; the default quantum is "100 when fresh".
unfoldable pub fresh_table : Table
fresh_table =
    record {
      tasks = replicate task_count no_task;
      semaphores = replicate semaphore_count no_semaphore;
      mutexes = replicate mutex_count no_mutex;
      groups = replicate group_count no_group;
      channels = replicate channel_count no_channel;
      queues = replicate queue_count (replicate task_count 0);
      tick = 0;
      default_quantum = fresh_quantum;
      depth = 0;
      running = 0;
      ready = 0;
      messages = replicate channel_count (replicate most_messages 0);
    }
