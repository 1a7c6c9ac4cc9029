-- Demand 3 of the mission, as one statement, and the theorem that it holds.
--
-- For a reader who knows no antt. `Demand3 t` is a statement about a table t, in four parts; each part stands below the words of the
-- mission that it puts into symbols. `demand_3` says that it holds of each table that any list of calls makes of the fresh table, and
-- `demand_3_from` that it holds of each that any list of calls makes of any sound table. That antt accepts this file is the proof;
-- nothing is assumed.
--
-- The symbols: `x ≡ y` is "x equals y"; `A → B` is "if A, then B", and `(x : ℕ) → ..` is "for each number x, .."; `A × B` is "A and
-- B"; `A ↔ B` is "A exactly where B"; `Each n (λ i. ..)` is "for each i below n, ..". What a name means is said where it is defined: in
-- `Order` here, and in the rules' `Table` (task_of, queue_of, works, first_in, is_able), `Chain` (Fresh), `Move` (next, base_of) and `Step`
-- (step). A task's number is written plus 1 where "none" may stand, and none is 0.
use Rattle.std.specs.Prelude.{◌≡◌, ◌↔◌, Bool, true, false, List, ℕ, ◌≤◌, ◌<◌, ◌-◌}
use Rattle.queue.specs.Order.{Ordered}
use Rattle.rules.specs.Sizes.{task_count}
use Rattle.rules.specs.Table.{Table, fresh_table, task_of, queue_of, queue_count, able_queue, first_in, works, is_able, written}
use Rattle.rules.specs.Chain.{Fresh}
use Rattle.rules.specs.Move.{next, base_of}
use Rattle.rules.specs.Sound.{Each, Sound}
use Rattle.rules.specs.Step.{step}
use Rattle.rules.specs.declared.Call.{Call}
use Rattle.laws.specs.order.Order.{Made, run, OrderKept}
-- These the proofs alone use.
use Rattle.std.proofs.Common.{sym, subst, ◌∙◌, true≢false, arith, ne_eqb}
use Rattle.rules.specs.Family.{place_of}
use Rattle.rules.specs.Sound.{SoundQueues}
use Rattle.laws.specs.queues.Stands.{able-place, able-stands, able_there, first_there, first_least, empty_none, none_empty}
use Rattle.laws.specs.keeps.Always.{always, always_from}
use Rattle.laws.specs.order.Ordering.{order_kept}

-- ---- the statement

-- "the first able task runs, or none if none is able"
pub record FirstRuns (t : Table) : Type 0 where
  -- Who runs is the first of the able queue, and none where that is empty.
  pub first : t.running ≡ first_in able_queue t
  -- That is: who runs is an able task, and no able task has a smaller working priority;
  pub able : (i : ℕ) → t.running ≡ written i → (i < task_count) × (is_able (task_of t i) ≡ true)
  pub urgent : (i : ℕ) → t.running ≡ written i → Each task_count (λ j. is_able (task_of t j) ≡ true → (task_of t i).work ≤ (task_of t j).work)
  -- and none runs exactly where no task is able.
  pub none : (t.running ≡ 0) ↔ Each task_count (λ j. is_able (task_of t j) ≡ false)

-- The four parts of demand 3.
pub record Demand3 (t : Table) : Type 0 where
  -- "each task's working priority equals the one worked out afresh (the smallest base number among itself and all tasks from which a
  -- chain of mutex waits leads to it, rings allowed)"
  pub worked : Each task_count (λ i. Fresh task_count (next t) (base_of t) i (task_of t i).work)
  -- "every queue stands in that order": by working priority, `works t`
  pub ordered : Each queue_count (λ q. Ordered (works t) (queue_of t q))
  -- "with the scheduler unlocked the first able task runs, or none if none is able"
  pub runs : t.depth ≡ 0 → FirstRuns t
  -- "two tasks in one and the same queue before and after a call, whose working priorities it did not change, keep their order there,
  -- save the running task where it yields or its turn ends"
  pub stable : (c : Call) (interrupt : Bool) → OrderKept c interrupt t (step c interrupt t).table

-- ---- the theorem

first_runs : {t : Table} → Sound t → t.depth ≡ 0 → FirstRuns t
first_runs {t} s z =
    record {
      first = first;
      able = λ i e. (omega (arith, s.runs.range), able_there (task_of t i) (there i e));
      urgent = λ i e j m a. subst (λ (n : ℕ). (task_of t n).work ≤ (task_of t j).work) (own i e) (first_least queued able_queue (omega arith) j m (able-stands (task_of t j) a));
      none = (
        (λ e j m. able-place (task_of t j) ∙ ne_eqb _ able_queue (empty_none queued able_queue (omega arith) (sym first ∙ e) j m)),
        (λ h. first ∙ none_empty queued able_queue (omega arith) (λ j m e. true≢false (sym (able_there (task_of t j) e) ∙ h j m))),
      );
    }
  where
    queued : SoundQueues t
    queued = s.settled.queued

    first : t.running ≡ first_in able_queue t
    first = s.runs.first z

    own : (i : ℕ) → t.running ≡ written i → first_in able_queue t - 1 ≡ i
    own i e = omega (arith, first)

    there : (i : ℕ) → t.running ≡ written i → place_of (task_of t i) ≡ able_queue
    there i e = subst (λ (n : ℕ). place_of (task_of t n) ≡ able_queue) (own i e) (first_there queued able_queue (omega arith) (λ z. omega (arith, first)))

-- It holds of each sound table.
pub demand-sound : {t : Table} → Sound t → Demand3 t
demand-sound s = record { worked = s.settled.worked; ordered = s.settled.queued.ordered; runs = first_runs s; stable = λ c interrupt. order_kept c interrupt s }

-- From any sound table, after any sequence of calls and ticks, refused ones included.
pub demand_3_from : {t : Table} → Sound t → (cs : List Made) → Demand3 (run cs t)
demand_3_from s cs = demand-sound (always_from cs s)

-- From the fresh table, after any sequence of calls and ticks, refused ones included.
pub demand_3 : (cs : List Made) → Demand3 (run cs fresh_table)
demand_3 cs = demand-sound (always cs)
