-- The local number of a task, one mutex at a time, in any table.
use Rattle.std.specs.Prelude.{◌≡◌, refl, ◌≢◌, Bool, true, false, cond, ◌&&◌, ℕ, ◌+◌, ◌-◌, ◌≤◌, ◌<◌, min, eqb, ltb}
use Rattle.std.proofs.Common.{add-one, arith}
use borrow.Author.Tests.{eq-eqb, ne_eqb, lt-ltb, le-ltb}
use Rattle.rules.specs.Sizes.{task_count, mutex_count}
use Rattle.rules.specs.Chain.{smallest}
use Rattle.rules.specs.Table.{Table, mutex_of, holder_of, mutex_queue, first_in, written}
use Rattle.rules.specs.Move.{base_of}
use Rattle.laws.specs.chains.Graph.{holder-written, written-holder}
use Rattle.laws.specs.local.Local.{by_firsts}
use Rattle.laws.specs.local.Table.{work_of, first_for, local_in}

-- The smaller of `best` and of the number of the first waiter of mutex m, if task i holds it.
unfoldable pub with_first : Table → ℕ → ℕ → ℕ → ℕ
with_first t i m best = cond (eqb (holder_of t m) i && ltb (first_for t m) task_count) (min (work_of t (first_for t m)) best) best

-- The same over the first m mutexes, from the base of i.
unfoldable pub firsts_below : Table → ℕ → ℕ → ℕ
firsts_below t i m = smallest (λ m. eqb (holder_of t m) i && ltb (first_for t m) task_count) (λ m. work_of t (first_for t m)) m (base_of t i)

pub below_none : (t : Table) (i : ℕ) → firsts_below t i 0 ≡ base_of t i
unfolding firsts_below smallest
below_none t i = refl

pub below_next : (t : Table) (i m : ℕ) → firsts_below t i (m + 1) ≡ with_first t i m (firsts_below t i m)
unfolding firsts_below with_first smallest
below_next t i m = rw add-one

pub below_all : (t : Table) (i : ℕ) → local_in t i ≡ firsts_below t i mutex_count
unfolding firsts_below local_in by_firsts
below_all t i = refl

module _ (t : Table) (i m best : ℕ) where
  pub other_holder : i < task_count → (mutex_of t m).holder ≢ written i → with_first t i m best ≡ best
  unfolding with_first
  other_holder l d = rw (ne_eqb (holder_of t m) i (λ e. d (holder-written t m i l e)))

  no_first : (b : Bool) → task_count ≤ first_for t m → cond (b && ltb (first_for t m) task_count) (min (work_of t (first_for t m)) best) best ≡ best
  no_first true h = rw (le-ltb (first_for t m) task_count h)
  no_first false h = refl

  -- The queue is empty, or its front slot holds no task.
  pub no_waiter : first_in (mutex_queue m) t ≡ 0 → with_first t i m best ≡ best
  unfolding with_first first_for
  no_waiter e = no_first (eqb (holder_of t m) i) (rw (eq-eqb (first_in (mutex_queue m) t) 0 e) (omega arith))

  pub beyond : task_count < first_in (mutex_queue m) t → with_first t i m best ≡ best
  unfolding with_first first_for
  beyond l = no_first (eqb (holder_of t m) i) (rw (ne_eqb (first_in (mutex_queue m) t) 0 (λ e. omega arith)) (omega arith))

  pub first_counts : (mutex_of t m).holder ≡ written i → first_in (mutex_queue m) t ≢ 0 → first_in (mutex_queue m) t ≤ task_count
      → with_first t i m best ≡ min (work_of t (first_in (mutex_queue m) t - 1)) best
  unfolding with_first first_for
  first_counts e d l =
      let v = first_in (mutex_queue m) t in
      rw (eq-eqb (holder_of t m) i (written-holder t m i e), ne_eqb v 0 d, lt-ltb (v - 1) task_count (omega arith))
