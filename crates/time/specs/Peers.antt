-- Quick answers to the question whether another able task has the working priority of task i.
use Rattle.std.specs.Prelude.{ℕ, ◌-◌, Bool, false, cond, not, ◌&&◌, ◌==◌, nat_le, nat_lt, slice_index}
use Rattle.rules.specs.Sizes.{task_count, plain}
use Rattle.rules.specs.declared.Task.{Task}
use Rattle.rules.specs.Table.{Table, task_of, queue_of, able_queue, is_able}
use Rattle.laws.specs.keeps.Tally.{tally}

-- ---- none, where no other plain task has it

abbrev pub is_plain_with : ℕ → Task → Bool
is_plain_with w k = k.work == w && k.state == plain

-- How many of the first n tasks are plain and of the working priority w.
abbrev pub plain_below : ℕ → ℕ → Table → ℕ
plain_below n w t = tally (λ j. is_plain_with w (task_of t j)) n

-- Whether task i, plain, is the only one of its working priority that is.
unfoldable pub is_alone : ℕ → Table → Bool
is_alone i t = nat_lt i task_count && ((task_of t i).state == plain && nat_le (plain_below task_count (task_of t i).work t) 1)

-- ---- one, where the second of the able queue has it

-- The task written in the second slot of the able queue, 0 for none.
abbrev pub second : Table → ℕ
second t = slice_index (queue_of t able_queue) 1

-- Whether task j is able, other than i, and of the working priority w.
abbrev pub is_peer : ℕ → ℕ → ℕ → Table → Bool
is_peer j i w t = not (j == i) && (is_able (task_of t j) && (task_of t j).work == w)

unfoldable pub is_second_peer : ℕ → Table → Bool
is_second_peer i t = cond (second t == 0) false (is_peer (second t - 1) i (task_of t i).work t)
