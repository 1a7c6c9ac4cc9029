-- The rules of `Broken` as tests that compute, and the first that fails.
use Rattle.std.specs.Prelude.{Option, Some, None, Bool, true, false, cond, not, ◌&&◌, ◌||◌, List, [], ◌∷◌, ◌++◌, ℕ, zero, suc, ◌+◌, ◌-◌, eqb, ltb, leb}
use Rattle.std.specs.Bool.{beq}
use Rattle.queue.specs.Slots.{key_of}
use Rattle.queue.specs.Order.{count}
use Rattle.rules.specs.Sizes.{task_count, semaphore_count, mutex_count, group_count, channel_count, most_messages, greatest_message, last_priority, level_count, words_round, most_nested, most_quantum, most_count, ticks_round, flag_sets, test_count, plain, delayed, waits_flags, object_deleted}
use Rattle.rules.specs.Table.{Table, task_of, semaphore_of, mutex_of, group_of, channel_of, queue_of, able_queue, first_in, slot_in, works, is_able, written}
use Rattle.rules.specs.Ready.{is_set}
use Rattle.rules.specs.Move.{fresh_in}
use Rattle.rules.specs.Family.{Family, families, last_state, objects_in, place_of}
use Rattle.rules.specs.Sound.{implies, once, each_of, marks_in, asks_in, is_no_task, is_no_semaphore, is_no_mutex, is_no_group, is_no_channel}
use Rattle.rules.specs.declared.Task.{Task}
use Rattle.rules.specs.declared.Semaphore.{Semaphore}
use Rattle.rules.specs.declared.Mutex.{Mutex}
use Rattle.rules.specs.declared.Group.{Group}
use Rattle.rules.specs.declared.Channel.{Channel}
use Rattle.why.specs.declared.Reason.{Reason}
use Rattle.why.specs.Broken.{record_count, queue_at, slot_at, message_count, channel_at, message_at, message_in}

-- A rule: its number; how many records it is asked of, numbered from 0; and whether the one with the number i keeps it.
pub record Test : Type 0 where
  pub rule : ℕ
  pub count : ℕ
  pub keeps : Table → ℕ → Bool

-- ---- the list, in the order of the numbers

abbrev pub of_task : ℕ → (Task → Bool) → Test
of_task rule keeps = record { rule = rule; count = task_count; keeps = λ t i. keeps (task_of t i) }

abbrev pub of_semaphore : ℕ → (Semaphore → Bool) → Test
of_semaphore rule keeps = record { rule = rule; count = semaphore_count; keeps = λ t i. keeps (semaphore_of t i) }

abbrev pub of_mutex : ℕ → (Mutex → Bool) → Test
of_mutex rule keeps = record { rule = rule; count = mutex_count; keeps = λ t i. keeps (mutex_of t i) }

abbrev pub of_group : ℕ → (Group → Bool) → Test
of_group rule keeps = record { rule = rule; count = group_count; keeps = λ t i. keeps (group_of t i) }

abbrev pub of_channel : ℕ → (Channel → Bool) → Test
of_channel rule keeps = record { rule = rule; count = channel_count; keeps = λ t i. keeps (channel_of t i) }

-- There is one record, with the number 0.
abbrev pub single : ℕ → (Table → Bool) → Test
single rule keeps = record { rule = rule; count = 1; keeps = λ t i. keeps t }

abbrev pub range_tests : List Test
range_tests =
    of_task 0x01 (λ k. leb k.used 1)
    ∷ of_task 0x02 (λ k. leb k.base last_priority)
    ∷ of_task 0x03 (λ k. leb k.work last_priority)
    ∷ of_task 0x04 (λ k. leb k.suspend most_nested)
    ∷ of_task 0x05 (λ k. leb k.quantum most_quantum)
    ∷ of_task 0x06 (λ k. leb k.left most_quantum)
    ∷ of_task 0x07 (λ k. leb k.state last_state)
    ∷ of_task 0x08 (λ k. ltb k.object (objects_in k.state))
    ∷ of_task 0x09 (λ k. leb k.marked 1)
    ∷ of_task 0x0A (λ k. ltb k.due (marks_in k.marked))
    ∷ of_task 0x0B (λ k. leb k.outcome object_deleted)
    ∷ of_task 0x0C (λ k. ltb k.mask (asks_in k.state flag_sets))
    ∷ of_task 0x0D (λ k. ltb k.test (asks_in k.state test_count))
    ∷ of_task 0x0E (λ k. ltb k.consume (asks_in k.state 2))
    ∷ of_task 0x0F (λ k. leb k.message greatest_message)
    ∷ []

abbrev pub task_tests : List Test
task_tests =
    of_task 0x10 (λ k. implies (eqb k.used 0) (is_no_task k))
    ∷ of_task 0x11 (λ k. implies (eqb k.state plain) (eqb k.marked 0))
    ∷ of_task 0x12 (λ k. implies (eqb k.state delayed) (eqb k.marked 1))
    ∷ of_task 0x13 (λ k. leb k.left k.quantum)
    ∷ of_task 0x14 (λ k. implies (eqb k.state waits_flags) (leb 1 k.mask))
    ∷ of_task 0x15 (λ k. implies (eqb k.used 1) (leb 1 k.quantum))
    ∷ []

abbrev pub object_tests : List Test
object_tests =
    of_semaphore 0x20 (λ x. leb x.used 1)
    ∷ of_semaphore 0x21 (λ x. leb x.count most_count)
    ∷ of_semaphore 0x22 (λ x. implies (eqb x.used 0) (is_no_semaphore x))
    ∷ of_mutex 0x30 (λ x. leb x.used 1)
    ∷ of_mutex 0x31 (λ x. leb x.holder task_count)
    ∷ of_mutex 0x32 (λ x. leb x.nesting most_nested)
    ∷ of_mutex 0x33 (λ x. implies (eqb x.used 0) (is_no_mutex x))
    ∷ of_mutex 0x34 (λ x. implies (eqb x.holder 0) (eqb x.nesting 0))
    ∷ of_mutex 0x35 (λ x. implies (not (eqb x.holder 0)) (leb 1 x.nesting))
    ∷ []

abbrev pub group_tests : List Test
group_tests =
    of_group 0x40 (λ x. leb x.used 1)
    ∷ of_group 0x41 (λ x. ltb x.flags flag_sets)
    ∷ of_group 0x42 (λ x. implies (eqb x.used 0) (is_no_group x))
    ∷ []

abbrev pub channel_tests : List Test
channel_tests =
    of_channel 0x50 (λ x. leb x.used 1)
    ∷ of_channel 0x51 (λ x. leb x.capacity most_messages)
    ∷ of_channel 0x52 (λ x. leb x.held x.capacity)
    ∷ of_channel 0x53 (λ x. implies (eqb x.used 0) (is_no_channel x))
    ∷ of_channel 0x54 (λ x. implies (eqb x.used 1) (leb 1 x.capacity))
    ∷ []

abbrev pub message_tests : List Test
message_tests =
    record { rule = 0x55; count = message_count; keeps = λ t n. leb (message_in n t) greatest_message }
    ∷ record { rule = 0x56; count = message_count; keeps = λ t n. implies (leb (channel_of t (channel_at n)).held (message_at n)) (eqb (message_in n t) 0) }
    ∷ []

-- The family of the object that task i waits for passes, where it waits for one.
unfoldable pub of_awaited : Table → ℕ → (Family → Bool) → Bool
of_awaited t i passes = each_of families (λ f. implies (eqb (task_of t i).state f.state) (passes f))

-- It is in use; it has nothing to take; the task does not hold it.
unfoldable pub is_object_used : Table → ℕ → Bool
is_object_used t i = of_awaited t i (λ f. eqb (f.used t (task_of t i).object) 1)

unfoldable pub offers_nothing : Table → ℕ → Bool
offers_nothing t i = of_awaited t i (λ f. not (f.offers t (task_of t i).object))

unfoldable pub is_apart : Table → ℕ → Bool
is_apart t i = of_awaited t i (λ f. not (eqb (f.holder t (task_of t i).object) i))

unfoldable pub is_holder_used : Table → ℕ → Bool
is_holder_used t m = implies (not (eqb (mutex_of t m).holder 0)) (eqb (task_of t ((mutex_of t m).holder - 1)).used 1)

abbrev pub wait_tests : List Test
wait_tests =
    record { rule = 0x80; count = task_count; keeps = is_object_used }
    ∷ record { rule = 0x81; count = task_count; keeps = offers_nothing }
    ∷ record { rule = 0x82; count = task_count; keeps = is_apart }
    ∷ []

abbrev pub holder_tests : List Test
holder_tests = record { rule = 0x83; count = mutex_count; keeps = is_holder_used } ∷ []

-- Task i stands in queue q as often as it should; the number in slot j is a task's or none; slot x may stand before slot y.
unfoldable pub is_placed : Table → (q i : ℕ) → Bool
is_placed t q i = eqb (count (written i) (queue_of t q)) (once (eqb (place_of (task_of t i)) q))

unfoldable pub may_stand : List ℕ → (x y : ℕ) → Bool
may_stand keys x y = eqb y 0 || (not (eqb x 0) && leb (key_of keys x) (key_of keys y))

abbrev pub of_queues : ℕ → (Table → (q j : ℕ) → Bool) → Test
of_queues rule keeps = record { rule = rule; count = record_count; keeps = λ t n. keeps t (queue_at n) (slot_at n) }

abbrev pub queue_tests : List Test
queue_tests =
    of_queues 0x90 is_placed
    ∷ of_queues 0x91 (λ t q j. leb (slot_in q j t) task_count)
    ∷ of_queues 0x92 (λ t q j. may_stand (works t) (slot_in q j t) (slot_in q (j + 1) t))
    ∷ []

unfoldable pub may_run : Table → ℕ → Bool
may_run t v = eqb v 0 || is_able (task_of t (v - 1))

abbrev pub work_tests : List Test
work_tests =
    record { rule = 0xA0; count = task_count; keeps = λ t i. eqb (task_of t i).work (fresh_in t i) }
    ∷ record { rule = 0xA1; count = task_count; keeps = λ t i. implies (eqb (task_of t i).marked 1) (not (eqb (task_of t i).due t.tick)) }
    ∷ []

abbrev pub single_tests : List Test
single_tests =
    single 0xB0 (λ t. ltb t.tick ticks_round)
    ∷ single 0xB1 (λ t. leb t.depth most_nested)
    ∷ single 0xB2 (λ t. leb t.running task_count)
    ∷ single 0xB3 (λ t. implies (eqb t.depth 0) (eqb t.running (first_in able_queue t)))
    ∷ single 0xB4 (λ t. implies (not (eqb t.depth 0)) (may_run t t.running))
    ∷ single 0xB5 (λ t. leb 1 t.default_quantum)
    ∷ single 0xB6 (λ t. leb t.default_quantum most_quantum)
    ∷ single 0xB7 (λ t. ltb t.ready words_round)
    ∷ []

-- One of the first n tasks is able and has level l; the level's bit says whether one of all is.
unfoldable pub has_able : (n l : ℕ) → Table → Bool
has_able zero l t = false
has_able (suc n) l t = let before = has_able n l t in before || (is_able (task_of t n) && eqb (task_of t n).work l)

unfoldable pub is_level_right : Table → ℕ → Bool
is_level_right t l = beq (is_set l t.ready) (has_able task_count l t)

abbrev pub level_tests : List Test
level_tests = record { rule = 0xB8; count = level_count; keeps = is_level_right } ∷ []

abbrev pub tests : List Test
tests = range_tests ++ (task_tests ++ (object_tests ++ (group_tests ++ (channel_tests ++ (message_tests ++ (wait_tests ++ (holder_tests ++ (queue_tests ++ (work_tests ++ (single_tests ++ level_tests))))))))))

-- ---- whether a rule is kept

-- The record i keeps the rule c of a list. What the list lacks, or has no such record, is kept.
unfoldable pub kept_in : List Test → (c i : ℕ) → Table → Bool
kept_in [] c i t = true
kept_in (r ∷ rs) c i t = cond (eqb c r.rule) (cond (ltb i r.count) (r.keeps t i) true) (kept_in rs c i t)

abbrev pub is_kept : (c i : ℕ) → Table → Bool
is_kept c i t = kept_in tests c i t

-- ---- the first that is broken

-- The numbers of the rules are below `rule_end`, and the records of rule c below `record_end c`.
abbrev pub rule_end : ℕ
rule_end = 0xC0

unfoldable pub record_end : ℕ → ℕ
record_end c = cond (leb 0x90 c && ltb c 0xA0) record_count (cond (leb 0x55 c && ltb c 0x60) message_count (cond (leb 0xB8 c) level_count task_count))

-- The least of the n numbers from i on that fails; i + n where none does.
unfoldable pub least : (n i : ℕ) → (ℕ → Bool) → ℕ
least zero i p = i
least (suc n) i p = let further = least n (suc i) p in cond (p i) further i

-- The first record that breaks rule c; `record_end c` where none does.
unfoldable pub first_at : ℕ → Table → ℕ
first_at c t = least (record_end c) 0 (λ i. is_kept c i t)

abbrev pub reason : (rule number : ℕ) → Reason
reason rule number = record { rule = rule; number = number }

-- The same as the code gives it: none where none does.
abbrev pub found_at : ℕ → Table → Option ℕ
found_at c t = cond (ltb (first_at c t) (record_end c)) (Some (first_at c t)) None

-- The first of the n rules from c on that is broken; 0 and 0 where none is.
unfoldable pub why_from : (n c : ℕ) → Table → Reason
why_from zero c t = reason 0 0
why_from (suc n) c t =
    let further = why_from n (suc c) t in
    cond (ltb (first_at c t) (record_end c)) (reason c (first_at c t)) further

unfoldable pub why_of : Table → Reason
why_of t = why_from rule_end 0 t
