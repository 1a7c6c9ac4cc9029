-- Yield, delay, delay resume.
use Rattle.std.specs.Prelude.{cond, not, ℕ, ◌+◌, ◌-◌, ◌%◌, eqb}
use Rattle.rules.specs.Sizes.{ticks_round, delayed, given, done, bad_value, none_running, while_locked, not_delayed, no_peer}
use Rattle.rules.specs.Table.{Table, task_of, with_state, with_mark}
use Rattle.rules.specs.Move.{put, rotate, ended, has_peer}
use Rattle.rules.specs.Task.{on_task, is_locked}

-- The caller is the running task. The answer of a call that wants one.
abbrev pub caller_of : Table → ℕ
caller_of t = t.running - 1

abbrev pub by_caller : Table → ℕ → ℕ
by_caller t answer = cond (eqb t.running 0) none_running answer

-- "the due mark is the counter plus n, wrapped at 2^32"
abbrev pub mark_in : ℕ → Table → ℕ
mark_in n t = (t.tick + n) % ticks_round

-- ---- "Yield: the caller goes behind its equals, left = quantum."

-- "yield 7 before" 20, "yield without a peer": without "another able task of the same working priority"
unfoldable pub yield_answer : Table → ℕ
yield_answer t =
    by_caller t
    (cond (is_locked t) while_locked
    (cond (not (has_peer (caller_of t) t)) no_peer done))

unfoldable pub yield : Table → Table
yield t = rotate (caller_of t) t

-- ---- "Delay n, 1 to 4,294,967,295: the due mark is the counter plus n, wrapped at 2^32."

-- "a delay of 0 ticks", "lock depth above 0: .. delay"
unfoldable pub delay_answer : ℕ → Table → ℕ
delay_answer n t = by_caller t (cond (eqb n 0) bad_value (cond (is_locked t) while_locked done))

unfoldable pub delay : ℕ → Table → Table
delay n t = put (caller_of t) (with_state delayed 0 (with_mark 1 (mark_in n t) (task_of t (caller_of t)))) t

-- ---- "Delay resume ends a delay, outcome 0."

-- "18 delay resume of a task not delayed"
unfoldable pub delay_resume_answer : ℕ → Table → ℕ
delay_resume_answer i t = on_task i t (cond (not (eqb (task_of t i).state delayed)) not_delayed done)

unfoldable pub delay_resume : ℕ → Table → Table
delay_resume i t = ended given i t
