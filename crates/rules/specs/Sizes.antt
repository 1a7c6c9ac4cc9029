-- The paper's sizes and numbers, each with its name, in one place.
use Rattle.std.specs.Prelude.{ℕ}

-- ---- "32 tasks, numbers 0 to 31. 16 semaphores and 16 mutexes, numbers 0 to 15 each."

abbrev pub task_count : ℕ
task_count = 32

abbrev pub semaphore_count : ℕ
semaphore_count = 16

abbrev pub mutex_count : ℕ
mutex_count = 16

-- "8 groups of 32 flags"
abbrev pub group_count : ℕ
group_count = 8

-- "16 queues of up to 32 messages": channels, and the slots of each
abbrev pub channel_count : ℕ
channel_count = 16

abbrev pub most_messages : ℕ
most_messages = 32

-- ---- "Priorities 0 to 62; 0 is the most urgent."

abbrev pub last_priority : ℕ
last_priority = 62

-- ---- "a 64-bit word": a bit for each level, and how many such words there are

abbrev pub level_count : ℕ
level_count = 64

abbrev pub words_round : ℕ
words_round = 18446744073709551616

-- ---- "suspend count 0 to 250", "a nesting of 1 to 250", "Lock depth 0 to 250"

abbrev pub most_nested : ℕ
most_nested = 250

-- ---- "a default quantum, 1 to 65,535, 100 when fresh"; a task's quantum has the same range

abbrev pub most_quantum : ℕ
most_quantum = 65535

abbrev pub fresh_quantum : ℕ
fresh_quantum = 100

-- ---- a count, the tick counter, a group's flags and a mask have 32 bits

abbrev pub most_count : ℕ
most_count = 4294967295

abbrev pub ticks_round : ℕ
ticks_round = 4294967296

-- how many sets of 32 flags there are
abbrev pub flag_sets : ℕ
flag_sets = 4294967296

-- a message is "a 32-bit number"
abbrev pub greatest_message : ℕ
greatest_message = 4294967295

-- ---- "a state (plain, delayed, waiting for semaphore s, waiting for mutex m)"

abbrev pub plain : ℕ
plain = 0

abbrev pub delayed : ℕ
delayed = 1

abbrev pub waits_semaphore : ℕ
waits_semaphore = 2

abbrev pub waits_mutex : ℕ
waits_mutex = 3

abbrev pub waits_flags : ℕ
waits_flags = 4

abbrev pub waits_message : ℕ
waits_message = 5

-- ---- "one of four tests: all set, any set, all clear, any clear"

abbrev pub all_set : ℕ
all_set = 0

abbrev pub any_set : ℕ
any_set = 1

abbrev pub all_clear : ℕ
all_clear = 2

abbrev pub any_clear : ℕ
any_clear = 3

abbrev pub test_count : ℕ
test_count = 4

-- ---- "the outcome of its last wait (0 given, 1 timed out, 2 aborted, 3 object deleted)"

abbrev pub given : ℕ
given = 0

abbrev pub timed_out : ℕ
timed_out = 1

abbrev pub aborted : ℕ
aborted = 2

abbrev pub object_deleted : ℕ
object_deleted = 3

-- ---- "Answer numbers"

-- 0: "done"
abbrev pub done : ℕ
done = 0

-- 1: "a task or object number beyond its range, or (port only) a call kind that the tape's list lacks"
abbrev pub beyond_range : ℕ
beyond_range = 1

-- 2: "the number is not in use"
abbrev pub not_in_use : ℕ
not_in_use = 2

-- 3: "create: the number is in use"
abbrev pub in_use : ℕ
in_use = 3

-- 4: "base priority above 62, a yes/no byte above 1, a delay of 0 ticks, or (port only) a quantum above 65,535"; "a mask of 0 or a fifth test"; "setting the
-- default to 0"; "capacity 0 or above 32"
abbrev pub bad_value : ℕ
bad_value = 4

-- 5: "made by an interrupt, and not a tick or a semaphore post"; of flags, "a post by an interrupt no longer 5"; of messages,
-- "a post by an interrupt is not refused with 5"
abbrev pub by_interrupt : ℕ
by_interrupt = 5

-- 6: "yield, delay, semaphore or mutex wait, mutex post: none is running"; of flags, "6 (a wait)"; of messages, a wait is "as for
-- semaphores"
abbrev pub none_running : ℕ
none_running = 6

-- 7: "lock depth above 0: yield, delay, a wait that would block, suspend or delete of the running task"
abbrev pub while_locked : ℕ
while_locked = 7

-- 8: "a non-blocking wait finds nothing to take"
abbrev pub nothing_to_take : ℕ
nothing_to_take = 8

-- 9: "mutex post by a task that is not its holder"
abbrev pub not_its_holder : ℕ
not_its_holder = 9

-- 10: "the 251st nesting of a mutex, lock or suspend"
abbrev pub nested_too_deep : ℕ
nested_too_deep = 10

-- 11: "semaphore post at count 4,294,967,295"
abbrev pub count_full : ℕ
count_full = 11

-- 12: "12 stays for unlock at depth 0"
abbrev pub not_locked : ℕ
not_locked = 12

-- 13: "unforced delete of an object with waiters; delete of a task that holds a mutex"
abbrev pub still_needed : ℕ
still_needed = 13

-- 14: "a wait is accepted and blocks; a delay answers 0"
abbrev pub blocks : ℕ
blocks = 14

-- 15: "the table is not sound, or its image has the wrong length"
abbrev pub not_sound : ℕ
not_sound = 15

-- 16: "16, after 4, for a post to a full queue"
abbrev pub channel_full : ℕ
channel_full = 16

-- "each in 12's place in the order". 17: "resume of a task not suspended"
abbrev pub not_suspended : ℕ
not_suspended = 17

-- 18: "delay resume of a task not delayed"
abbrev pub not_delayed : ℕ
not_delayed = 18

-- 19: "abort without a waiter"
abbrev pub no_waiter : ℕ
no_waiter = 19

-- 20: "yield without a peer", another able task of the same working priority
abbrev pub no_peer : ℕ
no_peer = 20
