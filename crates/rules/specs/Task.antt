-- Task create, task delete, change priority, suspend, resume. Of each call: its answer, the refusals in the paper's order, and what
-- changes where it is done.
use Rattle.std.specs.Prelude.{Bool, true, false, cond, not, ◌&&◌, ◌||◌, ℕ, zero, suc, ◌+◌, ◌-◌, eqb, ltb, leb}
use Rattle.rules.specs.Sizes.{task_count, mutex_count, last_priority, most_nested, most_quantum, done, beyond_range, not_in_use, in_use, bad_value, while_locked, nested_too_deep, not_suspended, still_needed}
use Rattle.rules.specs.declared.Task.{Task}
use Rattle.rules.specs.Table.{Table, task_of, mutex_of, is_used, written, no_task, with_used, with_base, with_work, with_suspend, with_quantum, with_left}
use Rattle.rules.specs.Move.{put, walk, next, is_running}
use Rattle.rules.specs.Quantum.{quantum_of}

-- The answer of a call on task i that is in range and in use, or else the number that says what is wrong.
abbrev pub on_task : ℕ → Table → ℕ → ℕ
on_task i t answer = cond (leb task_count i) beyond_range (cond (not (is_used (task_of t i).used)) not_in_use answer)

abbrev pub is_locked : Table → Bool
is_locked t = not (eqb t.depth 0)

-- ---- "Task create (plain, suspend 0, left = quantum, outcome 0)."; "a task created with 0 takes the default of that moment"

abbrev pub created : ℕ → ℕ → Task
created base quantum = with_used 1 (with_base base (with_work base (with_quantum quantum (with_left quantum no_task))))

-- "beyond its range", "in use", "base priority above 62", "(port only) a quantum above 65,535"
unfoldable pub create_answer : ℕ → ℕ → ℕ → Table → ℕ
create_answer i base quantum t =
    cond (leb task_count i) beyond_range
    (cond (is_used (task_of t i).used) in_use
    (cond (ltb last_priority base || ltb most_quantum quantum) bad_value done))

unfoldable pub create : ℕ → ℕ → ℕ → Table → Table
create i base quantum t = put i (created base (quantum_of quantum t)) t

-- ---- "Task delete: it leaves its queue, then the chain from the holder it waited for moves."

-- Whether task i holds one of the first n mutexes.
unfoldable pub holds_below : ℕ → ℕ → Table → Bool
holds_below zero i t = false
holds_below (suc n) i t =
    let holds = eqb (mutex_of t n).holder (written i) in
    let before = holds_below n i t in
    cond holds true before

-- "lock depth above 0: .. delete of the running task", "delete of a task that holds a mutex"; "task delete 7 before 13"
unfoldable pub delete_answer : ℕ → Table → ℕ
delete_answer i t =
    on_task i t
    (cond (is_locked t && is_running i t) while_locked
    (cond (holds_below mutex_count i t) still_needed done))

unfoldable pub delete : ℕ → Table → Table
delete i t = walk (next t i) (put i no_task t)

-- ---- "Change priority: the base changes, the chain from that task moves; an unchanged working priority moves nothing."

-- "base priority above 62"
unfoldable pub priority_answer : ℕ → ℕ → Table → ℕ
priority_answer i base t = on_task i t (cond (ltb last_priority base) bad_value done)

unfoldable pub change_priority : ℕ → ℕ → Table → Table
change_priority i base t = walk i (put i (with_base base (task_of t i)) t)

-- ---- "Suspend adds 1; resume takes 1. A waiter that is suspended stays in its queue, its time goes on, and it may be given the
-- object."

-- "lock depth above 0: .. suspend .. of the running task", "the 251st nesting of a .. suspend"
unfoldable pub suspend_answer : ℕ → Table → ℕ
suspend_answer i t =
    on_task i t
    (cond (is_locked t && is_running i t) while_locked
    (cond (leb most_nested (task_of t i).suspend) nested_too_deep done))

unfoldable pub suspend : ℕ → Table → Table
suspend i t = put i (with_suspend ((task_of t i).suspend + 1) (task_of t i)) t

-- "17 resume of a task not suspended"
unfoldable pub resume_answer : ℕ → Table → ℕ
resume_answer i t = on_task i t (cond (eqb (task_of t i).suspend 0) not_suspended done)

unfoldable pub resume : ℕ → Table → Table
resume i t = put i (with_suspend ((task_of t i).suspend - 1) (task_of t i)) t
