-- "Loops on the bench": P1 to P10, and the shop floor's case of each request, computed from the rules with the paper's numbers, as one statement.
use Rattle.std.specs.Prelude.{◌≡◌, refl, true, false, List, [], ◌∷◌, ◌++◌, ℕ, ◌+◌, ◌^◌, replicate, take}
use Rattle.queue.specs.Slots.{first_at, from, push, pull, opened, closed}
use Rattle.queue.specs.Order.{count, may_precede, fits, is_ordered}
use Rattle.rules.specs.Sound.{each, is_shaped, marks_in, is_task_in_range, is_no_task, is_no_semaphore, is_no_mutex, is_no_group, is_no_channel, asks_in, is_sound_task, is_sound_semaphore, is_sound_mutex, is_sound_group, is_sound_channel, may_wait, is_sound_wait, each_of, is_sound_objects, is_sound_ready, is_sound_queues, is_worked_out, is_sound_numbers, is_sound_within, is_sound_runs, is_sound}
use Rattle.rules.specs.Messages.{present, laid, holding}
use Rattle.rules.specs.Family.{of_state, place_of}
use Rattle.rules.specs.Sizes.{most_count, delayed, plain, timed_out}
use Rattle.rules.specs.Chain.{leads, smallest, fresh}
use Rattle.rules.specs.Walk.{walk_on}
use Rattle.rules.specs.Table.{Table, fresh_table, task_of, is_able, works, group_of, queue_of, able_queue, semaphore_queue, first_in, written, with_tick, holder_of}
use Rattle.std.specs.Int.Count.{count_leading_zeros}
use Rattle.rules.specs.Ready.{bit_of, is_set, with_level, without_level, first_level, levels_below, beside, ready_without, ready_with}
use Rattle.rules.specs.Move.{leave, join, stays, is_raised, put, rotate, next, fresh_in, ended, ended_all, chosen, peer_below}
use Rattle.rules.specs.Quantum.{quantum_of, default_answer, set_default}
use Rattle.rules.specs.Task.{create_answer, create, priority_answer, change_priority, suspend_answer, suspend, resume_answer, resume}
use Rattle.rules.specs.Time.{yield_answer, delay_answer, delay, delay_resume_answer}
use Rattle.rules.specs.Lock.{lock_answer, lock, unlock_answer, unlock}
use Rattle.rules.specs.Object.{object_create_answer, object_abort_answer, blocked, waits, taken}
use Rattle.rules.specs.Semaphore as semaphore
use Rattle.rules.specs.Mutex.{handed, released}
use Rattle.rules.specs.Mutex as mutex
use Rattle.rules.specs.Group.{meeting, is_met, consumed, woken}
use Rattle.rules.specs.Group as group
use Rattle.rules.specs.Channel.{delivered}
use Rattle.rules.specs.Channel as channel
use Rattle.rules.specs.Tick.{turned, due_ended, due_below, ticked}
use Rattle.rules.specs.Step.{Outcome, answer_to, change_by, told_by, for_interrupts, answer, effect, serve, step}
use Rattle.rules.specs.Kinds.{told_in, widths, of_kind, reading, spelled}
use Rattle.rules.specs.Tape.{little, sum, numbers, body_length, call_in, decimal, runner, line, printed_of, printed, tape}
use Rattle.rules.specs.declared.Call.{Call}
use Rattle.rules.specs.declared.Call.TheVariants.{TaskCreate, ChangePriority, Suspend, Resume, Yield, Delay, DelayResume, Lock, Unlock, Tick, SetDefaultQuantum, SemaphoreCreate, SemaphoreWait, SemaphorePost, SemaphoreAbort, MutexCreate, MutexWait, MutexPost, MutexAbort, GroupCreate, GroupWait, GroupPost, GroupAbort, ChannelCreate, ChannelWait, ChannelPost, ChannelAbort, ChannelFlush}

-- ---- calls that tasks make, one after another, on sound tables

-- The table after them; their answers; the task that runs after each, written.
unfoldable pub after : Table → List Call → Table
after t [] = t
after t (c ∷ cs) = after (serve c false t).table cs

unfoldable pub answers : Table → List Call → List ℕ
answers t [] = []
answers t (c ∷ cs) = let o = serve c false t in o.answer ∷ answers o.table cs

unfoldable pub runs : Table → List Call → List ℕ
runs t [] = []
runs t (c ∷ cs) = let o = serve c false t in o.runs ∷ runs o.table cs

-- The working priority of a task; a wait that may block, for ever.
abbrev works_at : Table → ℕ → ℕ
works_at t i = (task_of t i).work

abbrev wait : ℕ → Call
wait m = MutexWait m 1 0

abbrev many : ℕ → Call → List Call
many n c = replicate n c

-- ---- P1

-- `01 03 0A 02 00 / 20 00 / 22 00 01 00 00 00 00 / 01 01 05 00 00 / 22 00 01 00 00 00 00 / 01 02 07 00 00 / 23 00`
abbrev pub p1-tape : List ℕ
p1-tape =
    (0x01 ∷ 0x03 ∷ 0x0A ∷ 0x02 ∷ 0x00 ∷ [])
    ++ (0x20 ∷ 0x00 ∷ [])
    ++ (0x22 ∷ 0x00 ∷ 0x01 ∷ 0x00 ∷ 0x00 ∷ 0x00 ∷ 0x00 ∷ [])
    ++ (0x01 ∷ 0x01 ∷ 0x05 ∷ 0x00 ∷ 0x00 ∷ [])
    ++ (0x22 ∷ 0x00 ∷ 0x01 ∷ 0x00 ∷ 0x00 ∷ 0x00 ∷ 0x00 ∷ [])
    ++ (0x01 ∷ 0x02 ∷ 0x07 ∷ 0x00 ∷ 0x00 ∷ [])
    ++ (0x23 ∷ 0x00 ∷ [])

-- A digit, a space, a digit, the end of the line.
abbrev two : ℕ → ℕ → List ℕ
two a b = a ∷ 0x20 ∷ b ∷ 0x0A ∷ []

-- `0 3`, `0 3`, `0 3`, `0 1`, `14 3`, `0 3`, `0 1`
abbrev pub p1-text : List ℕ
p1-text = two 0x30 0x33 ++ two 0x30 0x33 ++ two 0x30 0x33 ++ two 0x30 0x31 ++ (0x31 ∷ two 0x34 0x33) ++ two 0x30 0x33 ++ two 0x30 0x31

-- ---- the tables of P2 to P8

-- "Task 3 (base 10) holds mutexes 0 and 1; task 1 (5) waits for 0, task 2 (7) for 1."
abbrev pub p2_table : Table
p2_table = after fresh_table (TaskCreate 3 10 0 ∷ MutexCreate 0 ∷ MutexCreate 1 ∷ wait 0 ∷ wait 1 ∷ TaskCreate 2 7 0 ∷ wait 1 ∷ TaskCreate 1 5 0 ∷ wait 0 ∷ [])

-- "Task 4 (20) holds mutex 0; task 3 (10) holds 1 and waits for 0; task 1 (2) waits for 1", for 5 ticks at most
abbrev pub p3_table : Table
p3_table =
    after fresh_table (TaskCreate 4 20 0 ∷ MutexCreate 0 ∷ MutexCreate 1 ∷ wait 0 ∷ TaskCreate 3 10 0 ∷ wait 1 ∷ wait 0 ∷ TaskCreate 1 2 0 ∷ MutexWait 1 1 5 ∷ [])

-- "Ring: 3 (10) holds 0 and waits for 1, 4 (20) holds 1 and waits for 0."
abbrev pub p4_table : Table
p4_table = after fresh_table (TaskCreate 4 20 0 ∷ MutexCreate 0 ∷ MutexCreate 1 ∷ wait 1 ∷ TaskCreate 3 10 0 ∷ wait 0 ∷ wait 1 ∷ wait 0 ∷ [])

-- "Delay 3 at counter 4,294,967,294"
abbrev pub p5_table : Table
p5_table = after (with_tick 4294967294 fresh_table) (TaskCreate 1 5 0 ∷ Delay 3 ∷ [])

-- Depth 1, with task 1 running, and then "a more urgent task is created".
abbrev pub p8-table : Table
p8-table = after fresh_table (TaskCreate 1 5 0 ∷ Lock ∷ TaskCreate 2 4 0 ∷ [])

-- Task 1 waits for semaphore 0, and is suspended.
abbrev pub suspended_waiter : Table
suspended_waiter = after fresh_table (TaskCreate 2 9 0 ∷ SemaphoreCreate 0 0 ∷ TaskCreate 1 5 0 ∷ SemaphoreWait 0 1 0 ∷ Suspend 1 ∷ [])

-- "The reader .. should wait for card and clock": task 1 waits for flags 0 and 1 of group 0, all set, and consumes them.
abbrev pub reader_waits : Table
reader_waits = after fresh_table (TaskCreate 1 5 0 ∷ GroupCreate 0 0 ∷ GroupWait 0 1 0 3 0 1 ∷ [])

-- Tasks 1 and 2 both wait for flag 0 of group 0, any set, and consume it.
abbrev pub two_wait : Table
two_wait = after fresh_table (TaskCreate 1 5 0 ∷ GroupCreate 0 0 ∷ GroupWait 0 1 0 1 1 1 ∷ TaskCreate 2 9 0 ∷ GroupWait 0 1 0 1 1 1 ∷ [])

-- The card's interrupt sets flag 0, the clock's flag 1.
abbrev card : Table → Outcome
card t = serve (GroupPost 0 1 1) true t

abbrev clock : Table → Outcome
clock t = serve (GroupPost 0 2 1) true t

-- Tasks 1 and 2 of one level, both created with 0: after the default was set to a, and then to b.
abbrev pub film_house : ℕ → ℕ → Table
film_house a b = after fresh_table (SetDefaultQuantum a ∷ TaskCreate 1 5 0 ∷ SetDefaultQuantum b ∷ TaskCreate 2 5 0 ∷ [])

-- "The reader hands frame numbers to the decoder": task 1, the reader, has posted frames 1 to 3 into channel 0, which has room for 2. Then the decoder,
-- task 2, is there.
abbrev frames : List Call
frames = ChannelPost 0 1 0 ∷ ChannelPost 0 2 0 ∷ ChannelPost 0 3 0 ∷ []

abbrev pub reader_alone-posts : Table
reader_alone-posts = after fresh_table (TaskCreate 1 5 0 ∷ ChannelCreate 0 2 ∷ [])

abbrev pub decoder_comes : Table
decoder_comes = after reader_alone-posts (frames ++ (TaskCreate 2 4 0 ∷ []))

-- Any number of waits of the decoder for a frame.
abbrev takes-frames : ℕ → Table
takes-frames n = after decoder_comes (many n (ChannelWait 0 1 0))

-- The reader posts frame 4 to the decoder that waits, and three frames to one that does not; the last of these to the front.
abbrev posts_on : Table → Table
posts_on t = after t (ChannelPost 0 4 0 ∷ [])

abbrev pub front_posted : Table
front_posted = after fresh_table (TaskCreate 1 5 0 ∷ ChannelCreate 0 32 ∷ ChannelPost 0 7 0 ∷ ChannelPost 0 0 0 ∷ ChannelPost 0 9 1 ∷ [])

abbrev flushes : Table → Outcome
flushes t = serve (ChannelFlush 0) false t

-- Task 1 is alone, and there is one object of each kind.
abbrev pub lone_task : Table
lone_task = after fresh_table (TaskCreate 1 5 0 ∷ SemaphoreCreate 0 0 ∷ MutexCreate 0 ∷ GroupCreate 0 0 ∷ ChannelCreate 0 1 ∷ [])

-- Tasks 1 and 2 of level 5 and task 3 of level 10 are able.
abbrev pub three-able : Table
three-able = after fresh_table (TaskCreate 3 10 0 ∷ TaskCreate 1 5 0 ∷ TaskCreate 2 5 0 ∷ [])

-- The word, and the first level in it, after the first n of them have gone to sleep, one after another.
abbrev asleep : ℕ → Table
asleep n = after three-able (many n (Delay 9))

abbrev first_of : Table → ℕ
first_of t = first_level t.ready

-- The decoder, task 3 of level 20, holds mutex 0, and task 4 of that level is able; the output, task 1, and a subtitle task, 2, are able at 5. Then the
-- output waits for the mutex, and then the decoder posts it.
abbrev pub subtitle_able : Table
subtitle_able = after fresh_table (TaskCreate 3 20 0 ∷ MutexCreate 0 ∷ wait 0 ∷ TaskCreate 4 20 0 ∷ TaskCreate 1 5 0 ∷ TaskCreate 2 5 0 ∷ [])

abbrev output_waits : Table
output_waits = after subtitle_able (wait 0 ∷ [])

abbrev decoder_posts : Table
decoder_posts = after output_waits (MutexPost 0 ∷ [])

-- The decoder, which holds mutex 0, and the subtitle task wait for semaphore 0 when the output waits for the mutex.
abbrev pub waiter-raised : Table
waiter-raised =
    after fresh_table
    (TaskCreate 3 20 0 ∷ MutexCreate 0 ∷ SemaphoreCreate 0 0 ∷ wait 0 ∷ SemaphoreWait 0 1 0 ∷ TaskCreate 2 5 0 ∷ SemaphoreWait 0 1 0 ∷ TaskCreate 1 5 0 ∷ wait 0 ∷ [])

-- The first four of a queue.
abbrev four : ℕ → Table → List ℕ
four q t = take 4 (queue_of t q)

-- Who runs after each of six ticks.
abbrev six_ticks : Table → List ℕ
six_ticks t = runs t (many 6 Tick)

abbrev ran : (a b c d e f : ℕ) → List ℕ
ran a b c d e f = written a ∷ written b ∷ written c ∷ written d ∷ written e ∷ written f ∷ []

-- ---- the statement

pub record Bench : Type 0 where
  -- P1, with its whole output
  pub p1 : tape p1-tape ≡ p1-text
  -- P2. "Task 3 .. holds mutexes 0 and 1; task 1 .. waits for 0, task 2 .. for 1. It works at 5. It posts 0: it works at 7, not 10."
  pub p2_set : (holder_of p2_table 0 ≡ 3) × (holder_of p2_table 1 ≡ 3) × (next p2_table 1 ≡ 3) × (next p2_table 2 ≡ 3)
  pub p2_before : works_at p2_table 3 ≡ 5
  pub p2_after : works_at (after p2_table (MutexPost 0 ∷ [])) 3 ≡ 7
  -- P3. "Task 4 .. holds mutex 0; task 3 .. holds 1 and waits for 0; task 1 .. waits for 1: 3 and 4 work at 2. Task 1 times out: both
  -- at 10."
  pub p3_set : (holder_of p3_table 0 ≡ 4) × (holder_of p3_table 1 ≡ 3) × (next p3_table 3 ≡ 4) × (next p3_table 1 ≡ 3)
  pub p3_before : (works_at p3_table 3 ≡ 2) × (works_at p3_table 4 ≡ 2)
  pub p3_after : (works_at (after p3_table (many 5 Tick)) 3 ≡ 10) × (works_at (after p3_table (many 5 Tick)) 4 ≡ 10)
  pub p3_timed_out : (task_of (after p3_table (many 5 Tick)) 1).outcome ≡ timed_out
  -- P4. "3 .. holds 0 and waits for 1, 4 .. holds 1 and waits for 0. Both work at 10; neither is able."
  pub p4_set : (next p4_table 3 ≡ 4) × (next p4_table 4 ≡ 3)
  pub p4_works : (works_at p4_table 3 ≡ 10) × (works_at p4_table 4 ≡ 10)
  pub p4_able : (is_able (task_of p4_table 3) ≡ false) × (is_able (task_of p4_table 4) ≡ false) × (p4_table.running ≡ 0)
  -- P5. "mark 1, ended by the third tick"
  pub p5_mark : ((task_of p5_table 1).marked ≡ 1) × ((task_of p5_table 1).due ≡ 1)
  pub p5_second : (task_of (after p5_table (many 2 Tick)) 1).state ≡ delayed
  pub p5_third : (task_of (after p5_table (many 3 Tick)) 1).state ≡ plain
  -- P6. "Post at count 4,294,967,295: 11; at 4,294,967,294: 0."
  pub p6_full : answers fresh_table (SemaphoreCreate 0 most_count ∷ SemaphorePost 0 ∷ []) ≡ 0 ∷ 11 ∷ []
  pub p6_room : answers fresh_table (SemaphoreCreate 0 4294967294 ∷ SemaphorePost 0 ∷ []) ≡ 0 ∷ 0 ∷ []
  -- P7. "250 nested mutex waits answer 0, the next 10."
  pub p7 : answers fresh_table (TaskCreate 1 5 0 ∷ MutexCreate 0 ∷ many 251 (wait 0)) ≡ replicate 252 0 ++ (10 ∷ [])
  -- P8. "Depth 1 .. the caller runs on; after unlock the new task runs"
  pub p8-depth : p8-table.depth ≡ 1
  pub p8 : (p8-table.running ≡ written 1) × (runs p8-table (Unlock ∷ []) ≡ written 2 ∷ [])
  -- P9. "Tasks 1 and 2, base 5, quanta 2 and 1, created in that order: running after three ticks: 1, 2, 1."
  pub p9 : runs (after fresh_table (TaskCreate 1 5 2 ∷ TaskCreate 2 5 1 ∷ [])) (many 3 Tick) ≡ written 1 ∷ written 2 ∷ written 1 ∷ []
  -- P10. "Tick on the fresh table: 0, counter 1, none."
  pub p10 : (answers fresh_table (Tick ∷ []) ≡ 0 ∷ []) × ((after fresh_table (Tick ∷ [])).tick ≡ 1) × (runs fresh_table (Tick ∷ []) ≡ 0 ∷ [])
  -- Each of these tables is sound, so `serve` is what the kernel does there.
  pub sound : (is_sound p2_table ≡ true) × (is_sound p3_table ≡ true) × (is_sound p4_table ≡ true) × (is_sound p5_table ≡ true) × (is_sound p8-table ≡ true) × (is_sound suspended_waiter ≡ true) × (is_sound reader_waits ≡ true) × (is_sound two_wait ≡ true) × (is_sound decoder_comes ≡ true) × (is_sound (takes-frames 3) ≡ true) × (is_sound front_posted ≡ true) × (is_sound lone_task ≡ true) × (is_sound three-able ≡ true) × (is_sound (asleep 3) ≡ true)
  -- An easy slip that those ten do not show: "A suspended waiter dropped from its queue." It stays there and is given the semaphore,
  -- and is able once it is resumed.
  pub waits_on : first_in (semaphore_queue 0) suspended_waiter ≡ written 1
  pub is_given : ((task_of (after suspended_waiter (SemaphorePost 0 ∷ [])) 1).state ≡ plain) × (runs suspended_waiter (SemaphorePost 0 ∷ Resume 1 ∷ []) ≡ written 2 ∷ written 1 ∷ [])
  -- Event flags: after the first of the two interrupts nobody runs; after the second the reader runs, and both flags are clear.
  pub reader_alone : reader_waits.running ≡ 0
  pub clock_first : ((clock reader_waits).answer ≡ 0) × ((clock reader_waits).runs ≡ 0) × ((card (clock reader_waits).table).runs ≡ written 1) × ((group_of (card (clock reader_waits).table).table 0).flags ≡ 0)
  pub card_first : ((card reader_waits).answer ≡ 0) × ((card reader_waits).runs ≡ 0) × ((clock (card reader_waits).table).runs ≡ written 1) × ((group_of (clock (card reader_waits).table).table 0).flags ≡ 0)
  -- "against the flags as the post left them .. turned over together": both wake, and the flag is clear.
  pub both_wake : ((task_of (card two_wait).table 1).state ≡ plain) × ((task_of (card two_wait).table 2).state ≡ plain) × ((group_of (card two_wait).table 0).flags ≡ 0)
  -- "Film houses leave the quantum at 0, and their tasks hog a level": they take turns, each by the default of the moment of its creation.
  pub film_ones : six_ticks (film_house 1 1) ≡ ran 2 1 2 1 2 1
  pub film_twos : six_ticks (film_house 2 2) ≡ ran 1 2 2 1 1 2
  pub film_both : six_ticks (film_house 1 2) ≡ ran 2 2 1 2 2 1
  pub film_set : (task_of (film_house 1 2) 1).quantum ≡ 1
  pub film_fresh : (task_of (after fresh_table (TaskCreate 1 5 0 ∷ [])) 1).left ≡ 100
  -- "setting the default to 0 gets 4"
  pub film_refused : answers fresh_table (SetDefaultQuantum 0 ∷ SetDefaultQuantum 65536 ∷ SetDefaultQuantum 65535 ∷ SetDefaultQuantum 1 ∷ []) ≡ 4 ∷ 4 ∷ 0 ∷ 0 ∷ []
  -- "The reader hands frame numbers to the decoder through a private array that overran": the third is refused, and nothing is overwritten.
  pub frames-posted : (answers reader_alone-posts frames ≡ 0 ∷ 0 ∷ 16 ∷ []) × (present decoder_comes 0 ≡ 1 ∷ 2 ∷ [])
  pub frames-taken : (answers decoder_comes (many 3 (ChannelWait 0 1 0)) ≡ 0 ∷ 0 ∷ 14 ∷ []) × ((task_of (takes-frames 1) 2).message ≡ 1) × ((task_of (takes-frames 2) 2).message ≡ 2) × ((takes-frames 3).running ≡ written 1)
  -- "with a waiter, the message goes to the first waiter directly and stands in its record"
  pub frame-given : ((task_of (posts_on (takes-frames 3)) 2).message ≡ 4) × ((task_of (posts_on (takes-frames 3)) 2).state ≡ plain) × ((posts_on (takes-frames 3)).running ≡ written 2) × (present (posts_on (takes-frames 3)) 0 ≡ [])
  -- "A post goes to the end or to the front"; "Flush empties the queue and tells how many messages went"
  pub front_first : present front_posted 0 ≡ 9 ∷ 7 ∷ 0 ∷ []
  pub frames-flushed : ((flushes front_posted).further ≡ 3) × (present (flushes front_posted).table 0 ≡ []) × ((flushes (flushes front_posted).table).further ≡ 0)
  -- "Service staff who hear "12" by telephone cannot tell an unpaired unlock from a lone yield": each has a number of its own.
  pub by_telephone : answers lone_task (Unlock ∷ Resume 1 ∷ DelayResume 1 ∷ Yield ∷ []) ≡ 12 ∷ 17 ∷ 18 ∷ 20 ∷ []
  pub nobody_to_abort : answers lone_task (SemaphoreAbort 0 ∷ MutexAbort 0 ∷ GroupAbort 0 ∷ ChannelAbort 0 ∷ []) ≡ 19 ∷ 19 ∷ 19 ∷ 19 ∷ []
  -- "each in 12's place in the order": behind 2, and a yield's behind 7
  pub in_its-place : answers lone_task (Resume 2 ∷ DelayResume 2 ∷ ChannelAbort 1 ∷ Lock ∷ Yield ∷ []) ≡ 2 ∷ 2 ∷ 2 ∷ 0 ∷ 7 ∷ []
  -- "Choosing the next task walks too many entries": the word tells the first level. A level's bit stays as long as it has an able task.
  pub ready_words : (three-able.ready ≡ 2 ^ 58 + 2 ^ 53) × ((asleep 1).ready ≡ 2 ^ 58 + 2 ^ 53) × ((asleep 2).ready ≡ 2 ^ 53) × ((asleep 3).ready ≡ 0)
  pub ready_first : (first_of three-able ≡ 5) × (first_of (asleep 1) ≡ 5) × (first_of (asleep 2) ≡ 10) × (first_of (asleep 3) ≡ 64)
  pub ready-runs : (three-able.running ≡ written 1) × ((asleep 1).running ≡ written 2) × ((asleep 2).running ≡ written 3) × ((asleep 3).running ≡ 0)
  -- Who is raised takes its bit along: of P2 task 3, which works at 5 and then at 7, where its base is 10.
  pub ready-raised : (p2_table.ready ≡ 2 ^ 58) × ((after p2_table (MutexPost 0 ∷ [])).ready ≡ 2 ^ 58 + 2 ^ 56)
  -- "A decoder raised to the output's level lines up behind a subtitle task, and the output waits for both": it goes before it now.
  pub raised_in_front : (output_waits.running ≡ written 3) × (four able_queue output_waits ≡ written 3 ∷ written 2 ∷ written 4 ∷ 0 ∷ [])
  -- "in the able queue and in every wait queue"
  pub raised_in_a-wait : (works_at waiter-raised 3 ≡ 5) × (four (semaphore_queue 0) waiter-raised ≡ written 3 ∷ written 2 ∷ 0 ∷ 0 ∷ [])
  -- whatever made it so: change priority takes the processor from an equal
  pub raised_by_change : four able_queue (after subtitle_able (ChangePriority 4 5 ∷ [])) ≡ written 4 ∷ written 1 ∷ written 2 ∷ written 3 ∷ []
  -- "a lowered one goes behind as today. A new arrival still goes behind": the decoder behind task 4, the output behind the subtitle task
  pub lowered_behind : (decoder_posts.running ≡ written 2) × (four able_queue decoder_posts ≡ written 2 ∷ written 1 ∷ written 4 ∷ written 3 ∷ [])
  pub arrived_behind : four able_queue subtitle_able ≡ written 1 ∷ written 2 ∷ written 3 ∷ written 4 ∷ []

pub bench : Bench
unfolding first_at from push pull opened closed leads smallest fresh walk_on fresh_table is_able place_of works count_leading_zeros bit_of is_set with_level without_level first_level levels_below beside ready_without ready_with leave join stays is_raised put rotate holder_of next fresh_in ended ended_all chosen peer_below quantum_of default_answer set_default create_answer create priority_answer change_priority suspend_answer suspend resume_answer resume yield_answer delay_answer delay delay_resume_answer lock_answer lock unlock_answer unlock object_create_answer object_abort_answer blocked waits taken semaphore.create semaphore.wait_answer semaphore.wait semaphore.post_answer semaphore.post mutex.create mutex.wait_answer mutex.wait mutex.post_answer handed released mutex.post meeting is_met consumed woken group.create group.wait_answer group.wait group.post_answer group.post present laid holding delivered channel.create_answer channel.create channel.wait_answer channel.wait channel.post_answer channel.post channel.flush_answer channel.flush turned due_ended due_below ticked answer_to change_by told_by for_interrupts answer effect serve told_in widths of_kind reading spelled little sum numbers body_length call_in decimal runner line printed_of printed tape step count may_precede fits is_ordered each is_shaped marks_in is_task_in_range is_no_task is_no_semaphore is_no_mutex is_no_group is_no_channel asks_in is_sound_task is_sound_semaphore is_sound_mutex is_sound_group is_sound_channel may_wait of_state each_of is_sound_wait is_sound_objects is_sound_ready is_sound_queues is_worked_out is_sound_numbers is_sound_within is_sound_runs is_sound after answers runs
bench =
    record {
      p1 = refl;
      p2_set = (refl, refl, refl, refl);
      p2_before = refl;
      p2_after = refl;
      p3_set = (refl, refl, refl, refl);
      p3_before = (refl, refl);
      p3_after = (refl, refl);
      p3_timed_out = refl;
      p4_set = (refl, refl);
      p4_works = (refl, refl);
      p4_able = (refl, refl, refl);
      p5_mark = (refl, refl);
      p5_second = refl;
      p5_third = refl;
      p6_full = refl;
      p6_room = refl;
      p7 = refl;
      p8-depth = refl;
      p8 = (refl, refl);
      p9 = refl;
      p10 = (refl, refl, refl);
      sound = (refl, refl, refl, refl, refl, refl, refl, refl, refl, refl, refl, refl, refl, refl);
      waits_on = refl;
      is_given = (refl, refl);
      reader_alone = refl;
      clock_first = (refl, refl, refl, refl);
      card_first = (refl, refl, refl, refl);
      both_wake = (refl, refl, refl);
      film_ones = refl;
      film_twos = refl;
      film_both = refl;
      film_set = refl;
      film_fresh = refl;
      film_refused = refl;
      frames-posted = (refl, refl);
      frames-taken = (refl, refl, refl, refl);
      frame-given = (refl, refl, refl, refl);
      front_first = refl;
      frames-flushed = (refl, refl, refl);
      by_telephone = refl;
      nobody_to_abort = refl;
      in_its-place = refl;
      ready_words = (refl, refl, refl, refl);
      ready_first = (refl, refl, refl, refl);
      ready-runs = (refl, refl, refl, refl);
      ready-raised = (refl, refl);
      raised_in_front = (refl, refl);
      raised_in_a-wait = (refl, refl);
      raised_by_change = refl;
      lowered_behind = (refl, refl);
      arrived_behind = refl;
    }
