-- Waits that end, turn by turn.
use mathlib.Core.Path.{◌≡◌, refl, sym, ap, ◌∙◌}
use Prim.Native.Nat.{ℕ, zero, suc, ◌-◌, ◌≤◌, ◌<◌}
use native.Mathlib.Omega.{arith}
use lib.ListN.{length}
use borrow.Author.Tests.{eq-eqb, ne_eqb}
use Rattle.rules.specs.Sizes.{task_count, plain}
use Rattle.rules.specs.declared.Task.{Task}
use Rattle.rules.specs.Table.{Table, task_of, first_in, with_work, with_state, with_outcome}
use Rattle.rules.specs.Move.{put, walk, next, fresh_in, put_work, away, ready, ended, ended_all}
use Rattle.laws.specs.chains.Graph.{ends-sized}
use Rattle.laws.specs.chains.Walk.{walk_on_past}
use Rattle.laws.specs.queues.Put.{put_out, task-put_same}
use Rattle.laws.specs.queues.Fields.{bare, walk-bare}

pub ended_is : (outcome i : ℕ) (t left settled : Table) → left ≡ put i (away (task_of t i)) t → settled ≡ walk (next t i) left
    → put i (ready outcome (task_of settled i)) settled ≡ ended outcome i t
unfolding ended
ended_is outcome i t left settled e d = rw (d, e)

-- A number that is no task's waits for nothing.
pub ended_none : (outcome i : ℕ) (t : Table) → task_count ≤ i → length t.tasks ≡ task_count → ended outcome i t ≡ t
unfolding ended
ended_none outcome i t l size =
    put_out i _ _ l
    ∙ walk_on_past task_count next fresh_in put_work task_count (next t i) _ (ends-sized t size i l)
    ∙ put_out i _ t l

-- A task whose wait ends is away until it becomes plain: a walk changes working priorities alone.
module _ (i : ℕ) (t left settled : Table) (l : i < task_count) (size : length t.tasks ≡ task_count) (e : left ≡ put i (away (task_of t i)) t) (d : settled ≡ walk (next t i) left) where
  settled-bare : bare (task_of settled i) ≡ bare (away (task_of t i))
  settled-bare =
      ap (λ (u : Table). bare (task_of u i)) d
      ∙ walk-bare (next t i) left i
      ∙ ap (λ (u : Table). bare (task_of u i)) e
      ∙ ap bare (task-put_same i (away (task_of t i)) t l size)

  pub settled-away : away (task_of settled i) ≡ task_of settled i
  settled-away =
      let w = (task_of settled i).work in
      ap (λ (k : Task). with_work w (away k)) settled-bare ∙ ap (λ (k : Task). with_work w k) (sym settled-bare)

-- What a task that is away becomes.
pub away-ready : (outcome : ℕ) (k : Task) → away k ≡ k → with_outcome outcome (with_state plain 0 k) ≡ ready outcome k
away-ready outcome k h = ap (λ (x : Task). with_outcome outcome (with_state plain 0 x)) (sym h)

module _ (outcome q : ℕ) (t : Table) where
  pub all_none : (n : ℕ) → first_in q t ≡ 0 → t ≡ ended_all n outcome q t
  unfolding ended_all
  all_none zero e = refl
  all_none (suc n) e = rw (eq-eqb _ _ e)

  pub all_more : (n : ℕ) → (n ≡ 0 → ⊥) → (first_in q t ≡ 0 → ⊥) → ended_all n outcome q t ≡ ended_all (n - 1) outcome q (ended outcome (first_in q t - 1) t)
  unfolding ended_all
  all_more zero z d = absurd (z refl)
  all_more (suc n) z d =
      let e : suc n - 1 ≡ n = omega arith in
      rw (ne_eqb _ _ d, e)

  pub all_end : (n : ℕ) → n ≡ 0 → t ≡ ended_all n outcome q t
  unfolding ended_all
  all_end n e = rw e
