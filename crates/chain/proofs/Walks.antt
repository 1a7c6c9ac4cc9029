-- The walk past a task.
use mathlib.Core.Path.{◌≡◌, ap, ◌∙◌}
use mathlib.Core.Logic.{◌≢◌}
use Prim.Native.Nat.{ℕ, ◌-◌, ◌<◌}
use Rattle.rules.specs.Sizes.{task_count}
use Rattle.rules.specs.Table.{Table, task_of}
use Rattle.rules.specs.Walk.{walk_on}
use Rattle.rules.specs.Move.{next, fresh_in, put_work}
use Rattle.laws.specs.chains.Walk.{walk_on_turn}
use Rattle.laws.specs.chains.Graph.{work_same}

-- A task that works at the right number stays as it is, and the walk goes on from the holder for which it waits.
pub walk-passes : (k i : ℕ) (t : Table) → k ≢ 0 → i < task_count → (task_of t i).work ≡ fresh_in t i
    → walk_on task_count next fresh_in put_work k i t ≡ walk_on task_count next fresh_in put_work (k - 1) (next t i) t
walk-passes k i t d l e =
    walk_on_turn task_count next fresh_in put_work k i t d l
    ∙ ap (walk_on task_count next fresh_in put_work (k - 1) (next t i)) (work_same t i (fresh_in t i) l e)
