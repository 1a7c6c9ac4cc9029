-- What a table breaks: the standing rules of `Sound`, each with a number, and where it is broken.
--
-- For a reader who knows no antt. `Broken t rule number` says that the table t breaks the rule with that number at the record with that number. There
-- is one line for each field of the records in the rules' `Sound`, in its words: `(.. → ⊥)` before the end of a line is "and it is not so that ..". `why_of`
-- in `Tests` computes such a rule and record, and `Theorem` says that there is one exactly where the table is not sound, and that it is the first.
use Rattle.std.specs.Prelude.{◌≡◌, ◌⊎◌, ◌↔◌, true, ℕ, ◌+◌, ◌*◌, ◌-◌, ◌/◌, ◌%◌, ◌≤◌, ◌<◌, eqb, get_or}
use Rattle.queue.specs.Order.{Le, count}
use Rattle.rules.specs.Sizes.{task_count, semaphore_count, mutex_count, group_count, channel_count, most_messages, greatest_message, last_priority, level_count, words_round, most_nested, most_quantum, most_count, ticks_round, flag_sets, test_count, plain, delayed, waits_flags, object_deleted}
use Rattle.rules.specs.Chain.{Fresh}
use Rattle.rules.specs.Table.{Table, task_of, semaphore_of, mutex_of, group_of, channel_of, row_of, queue_of, queue_count, able_queue, first_in, slot_in, works, is_able, written, no_task, no_semaphore, no_mutex, no_group, no_channel}
use Rattle.rules.specs.Ready.{is_set}
use Rattle.rules.specs.Move.{next, base_of}
use Rattle.rules.specs.Family.{Family, Among, families, last_state, objects_in, place_of}
use Rattle.rules.specs.Sound.{once, marks_in, asks_in, HasAble}

-- The records of the rules on queues: number n is task or slot `slot_at n` of queue `queue_at n`, so slot j of queue q is 32 q + j.
abbrev pub record_count : ℕ
record_count = queue_count * task_count

abbrev pub queue_at : ℕ → ℕ
queue_at n = n / task_count

abbrev pub slot_at : ℕ → ℕ
slot_at n = n % task_count

-- The records of the rules on messages: number n is slot `message_at n` of channel `channel_at n`, so slot j of channel c is 32 c + j. (Message queues are
-- called channels, since a queue is a row of tasks.)
abbrev pub message_count : ℕ
message_count = channel_count * most_messages

abbrev pub channel_at : ℕ → ℕ
channel_at n = n / most_messages

abbrev pub message_at : ℕ → ℕ
message_at n = n % most_messages

abbrev pub message_in : ℕ → Table → ℕ
message_in n t = get_or (row_of t (channel_at n)) (message_at n) 0

-- It is so of the family of the object that task i waits for, where it waits for one.
abbrev pub OfAwaited : Table → ℕ → (Family → Type 0) → Type 0
OfAwaited t i P = (f : Family) → Among f families → (task_of t i).state ≡ f.state → P f

pub data Broken (t : Table) : (rule number : ℕ) → Type 0 where
  -- ---- "All fields are in range": of a task
  task_used : {i : ℕ} → i < task_count → ((task_of t i).used ≤ 1 → ⊥) → Broken t 0x01 i
  task_base : {i : ℕ} → i < task_count → ((task_of t i).base ≤ last_priority → ⊥) → Broken t 0x02 i
  task_work : {i : ℕ} → i < task_count → ((task_of t i).work ≤ last_priority → ⊥) → Broken t 0x03 i
  task_suspend : {i : ℕ} → i < task_count → ((task_of t i).suspend ≤ most_nested → ⊥) → Broken t 0x04 i
  task_quantum : {i : ℕ} → i < task_count → ((task_of t i).quantum ≤ most_quantum → ⊥) → Broken t 0x05 i
  task_left : {i : ℕ} → i < task_count → ((task_of t i).left ≤ most_quantum → ⊥) → Broken t 0x06 i
  task_state : {i : ℕ} → i < task_count → ((task_of t i).state ≤ last_state → ⊥) → Broken t 0x07 i
  task_object : {i : ℕ} → i < task_count → ((task_of t i).object < objects_in (task_of t i).state → ⊥) → Broken t 0x08 i
  task_marked : {i : ℕ} → i < task_count → ((task_of t i).marked ≤ 1 → ⊥) → Broken t 0x09 i
  task_due : {i : ℕ} → i < task_count → ((task_of t i).due < marks_in (task_of t i).marked → ⊥) → Broken t 0x0A i
  task_outcome : {i : ℕ} → i < task_count → ((task_of t i).outcome ≤ object_deleted → ⊥) → Broken t 0x0B i
  task_mask : {i : ℕ} → i < task_count → ((task_of t i).mask < asks_in (task_of t i).state flag_sets → ⊥) → Broken t 0x0C i
  task_test : {i : ℕ} → i < task_count → ((task_of t i).test < asks_in (task_of t i).state test_count → ⊥) → Broken t 0x0D i
  task_consume : {i : ℕ} → i < task_count → ((task_of t i).consume < asks_in (task_of t i).state 2 → ⊥) → Broken t 0x0E i
  task_message : {i : ℕ} → i < task_count → ((task_of t i).message ≤ greatest_message → ⊥) → Broken t 0x0F i
  -- ---- a task's fields together
  task_free : {i : ℕ} → i < task_count → (((task_of t i).used ≡ 0 → task_of t i ≡ no_task) → ⊥) → Broken t 0x10 i
  task_plain_mark : {i : ℕ} → i < task_count → (((task_of t i).state ≡ plain → (task_of t i).marked ≡ 0) → ⊥) → Broken t 0x11 i
  task_delay_mark : {i : ℕ} → i < task_count → (((task_of t i).state ≡ delayed → (task_of t i).marked ≡ 1) → ⊥) → Broken t 0x12 i
  task_left_most : {i : ℕ} → i < task_count → ((task_of t i).left ≤ (task_of t i).quantum → ⊥) → Broken t 0x13 i
  task_asks : {i : ℕ} → i < task_count → (((task_of t i).state ≡ waits_flags → 1 ≤ (task_of t i).mask) → ⊥) → Broken t 0x14 i
  task_turn : {i : ℕ} → i < task_count → (((task_of t i).used ≡ 1 → 1 ≤ (task_of t i).quantum) → ⊥) → Broken t 0x15 i
  -- ---- a semaphore
  semaphore_used : {i : ℕ} → i < semaphore_count → ((semaphore_of t i).used ≤ 1 → ⊥) → Broken t 0x20 i
  semaphore_counts : {i : ℕ} → i < semaphore_count → ((semaphore_of t i).count ≤ most_count → ⊥) → Broken t 0x21 i
  semaphore_free : {i : ℕ} → i < semaphore_count → (((semaphore_of t i).used ≡ 0 → semaphore_of t i ≡ no_semaphore) → ⊥) → Broken t 0x22 i
  -- ---- a mutex
  mutex_used : {i : ℕ} → i < mutex_count → ((mutex_of t i).used ≤ 1 → ⊥) → Broken t 0x30 i
  mutex_holder : {i : ℕ} → i < mutex_count → ((mutex_of t i).holder ≤ task_count → ⊥) → Broken t 0x31 i
  mutex_nesting : {i : ℕ} → i < mutex_count → ((mutex_of t i).nesting ≤ most_nested → ⊥) → Broken t 0x32 i
  mutex_free : {i : ℕ} → i < mutex_count → (((mutex_of t i).used ≡ 0 → mutex_of t i ≡ no_mutex) → ⊥) → Broken t 0x33 i
  mutex_unheld : {i : ℕ} → i < mutex_count → (((mutex_of t i).holder ≡ 0 → (mutex_of t i).nesting ≡ 0) → ⊥) → Broken t 0x34 i
  mutex_held : {i : ℕ} → i < mutex_count → ((((mutex_of t i).holder ≡ 0 → ⊥) → 1 ≤ (mutex_of t i).nesting) → ⊥) → Broken t 0x35 i
  -- ---- a group of flags
  group_used : {i : ℕ} → i < group_count → ((group_of t i).used ≤ 1 → ⊥) → Broken t 0x40 i
  group_flags : {i : ℕ} → i < group_count → ((group_of t i).flags < flag_sets → ⊥) → Broken t 0x41 i
  group_free : {i : ℕ} → i < group_count → (((group_of t i).used ≡ 0 → group_of t i ≡ no_group) → ⊥) → Broken t 0x42 i
  -- ---- a channel; then of a slot of its row: a message has 32 bits, and a slot without one is 0
  channel_used : {i : ℕ} → i < channel_count → ((channel_of t i).used ≤ 1 → ⊥) → Broken t 0x50 i
  channel_capacity : {i : ℕ} → i < channel_count → ((channel_of t i).capacity ≤ most_messages → ⊥) → Broken t 0x51 i
  channel_held : {i : ℕ} → i < channel_count → ((channel_of t i).held ≤ (channel_of t i).capacity → ⊥) → Broken t 0x52 i
  channel_free : {i : ℕ} → i < channel_count → (((channel_of t i).used ≡ 0 → channel_of t i ≡ no_channel) → ⊥) → Broken t 0x53 i
  channel_room : {i : ℕ} → i < channel_count → (((channel_of t i).used ≡ 1 → 1 ≤ (channel_of t i).capacity) → ⊥) → Broken t 0x54 i
  message_range : {n : ℕ} → n < message_count → (message_in n t ≤ greatest_message → ⊥) → Broken t 0x55 n
  message_unused : {n : ℕ} → n < message_count → (((channel_of t (channel_at n)).held ≤ message_at n → message_in n t ≡ 0) → ⊥) → Broken t 0x56 n
  -- ---- who waits, of a task; who holds, of a mutex
  wait_used : {i : ℕ} → i < task_count → (OfAwaited t i (λ f. f.used t (task_of t i).object ≡ 1) → ⊥) → Broken t 0x80 i
  wait_nothing : {i : ℕ} → i < task_count → (OfAwaited t i (λ f. f.offers t (task_of t i).object ≡ true → ⊥) → ⊥) → Broken t 0x81 i
  wait_apart : {i : ℕ} → i < task_count → (OfAwaited t i (λ f. f.holder t (task_of t i).object ≡ i → ⊥) → ⊥) → Broken t 0x82 i
  holder_used : {i : ℕ} → i < mutex_count → ((((mutex_of t i).holder ≡ 0 → ⊥) → (task_of t ((mutex_of t i).holder - 1)).used ≡ 1) → ⊥) → Broken t 0x83 i
  -- ---- the queues: each task stands once in its queue and in no other; each slot is free or has a task's number, and may stand before the next
  queue_places : {n : ℕ} → n < record_count → (count (written (slot_at n)) (queue_of t (queue_at n)) ≡ once (eqb (place_of (task_of t (slot_at n))) (queue_at n)) → ⊥) → Broken t 0x90 n
  queue_nothing_else : {n : ℕ} → n < record_count → (slot_in (queue_at n) (slot_at n) t ≤ task_count → ⊥) → Broken t 0x91 n
  queue_ordered : {n : ℕ} → n < record_count → (Le (works t) (slot_in (queue_at n) (slot_at n) t) (slot_in (queue_at n) (slot_at n + 1) t) → ⊥) → Broken t 0x92 n
  -- ---- "Working priorities equal those worked out afresh (mission, 3)."; "no mark equals the tick counter": of a task
  task_worked : {i : ℕ} → i < task_count → (Fresh task_count (next t) (base_of t) i (task_of t i).work → ⊥) → Broken t 0xA0 i
  task_not_due : {i : ℕ} → i < task_count → (((task_of t i).marked ≡ 1 → (task_of t i).due ≡ t.tick → ⊥) → ⊥) → Broken t 0xA1 i
  -- ---- the single numbers, and who runs: number 0
  tick_range : (t.tick < ticks_round → ⊥) → Broken t 0xB0 0
  depth_range : (t.depth ≤ most_nested → ⊥) → Broken t 0xB1 0
  running_range : (t.running ≤ task_count → ⊥) → Broken t 0xB2 0
  running_first : ((t.depth ≡ 0 → t.running ≡ first_in able_queue t) → ⊥) → Broken t 0xB3 0
  running_able : (((t.depth ≡ 0 → ⊥) → (t.running ≡ 0) ⊎ (is_able (task_of t (t.running - 1)) ≡ true)) → ⊥) → Broken t 0xB4 0
  default_least : (1 ≤ t.default_quantum → ⊥) → Broken t 0xB5 0
  default_most : (t.default_quantum ≤ most_quantum → ⊥) → Broken t 0xB6 0
  ready_word : (t.ready < words_round → ⊥) → Broken t 0xB7 0
  -- ---- "a level's bit is set exactly if that level has an able task": of a level
  ready_levels : {l : ℕ} → l < level_count → (((is_set l t.ready ≡ true) ↔ HasAble l t) → ⊥) → Broken t 0xB8 l
