-- "Tick: counter plus 1, wrapped. Then .. Then .." A tick is never refused.
use Rattle.std.specs.Prelude.{Bool, cond, ◌&&◌, ℕ, zero, suc, ◌+◌, ◌-◌, ◌%◌, eqb}
use Rattle.rules.specs.Sizes.{task_count, ticks_round, delayed, given, timed_out}
use Rattle.rules.specs.Table.{Table, task_of, with_tick, with_left}
use Rattle.rules.specs.Move.{put, rotate, ended, has_peer}
use Rattle.rules.specs.Time.{caller_of}

-- "if a task runs ..: left falls by 1 but not below 0; if left is 0, depth is 0 and another able task has its working priority, it goes
-- behind its equals and left = quantum." Of a quantum of 0 paper 01 says "never rotated", which paper 02 calls wrong: no task has one.
unfoldable pub turned : Table → Table
turned t =
    let i = caller_of t in
    let none_runs = eqb t.running 0 in
    let shorter = put i (with_left ((task_of t i).left - 1) (task_of t i)) t in
    let is_over = eqb (task_of shorter i).left 0 && (eqb shorter.depth 0 && has_peer i shorter) in
    let behind = rotate i shorter in
    cond none_runs t (cond is_over behind shorter)

-- "each task whose mark equals the counter, in rising number: it leaves its queue, the chain from the holder moves, it becomes plain,
-- with outcome 1 for a wait and 0 for a delay"
abbrev pub is_due : ℕ → Table → Bool
is_due i t = eqb (task_of t i).marked 1 && eqb (task_of t i).due t.tick

unfoldable pub due_ended : ℕ → Table → Table
due_ended i t =
    let outcome = cond (eqb (task_of t i).state delayed) given timed_out in
    let over = ended outcome i t in
    cond (is_due i t) over t

-- Those of the first n tasks.
unfoldable pub due_below : ℕ → Table → Table
due_below zero t = t
due_below (suc n) t = due_ended n (due_below n t)

unfoldable pub ticked : Table → Table
ticked t = due_below task_count (turned (with_tick ((t.tick + 1) % ticks_round) t))
