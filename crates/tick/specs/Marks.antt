-- The due marks, as many tasks are asked at once.
use Rattle.std.specs.Prelude.{ℕ, zero, suc, Bool, false, ◌||◌, ◌==◌}
use Rattle.rules.specs.Table.{Table, task_of}

abbrev pub is_at : ℕ → ℕ → Table → Bool
is_at i now t = (task_of t i).due == now

-- Whether the due mark of one of the first n tasks is the tick `now`.
unfoldable pub some_at : ℕ → ℕ → Table → Bool
some_at zero now t = false
some_at (suc n) now t = is_at n now t || some_at n now t
