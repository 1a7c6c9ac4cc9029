-- A post of a semaphore: it counts, or the first waiter is given it.
use mathlib.Core.Path.{◌≡◌}
use mathlib.Core.Bool.{cond}
use Prim.Native.Nat.{ℕ, ◌+◌, ◌-◌, ◌<◌}
use native.Mathlib.Omega.{arith}
use lib.Dec.{leb}
use borrow.Author.Tests.{ne_eqb, lt-leb}
use Rattle.rules.specs.Sizes.{most_count, given, done, count_full}
use Rattle.rules.specs.Table.{Table, semaphore_of, semaphore_queue, first_in, written}
use Rattle.rules.specs.Move.{ended}
use Rattle.rules.specs.Semaphore.{with_count_of, post}

module _ (i : ℕ) (t : Table) {u : Table} where
  pub post-counts : {n : ℕ} → n ≡ (semaphore_of t i).count → 0 ≡ first_in (semaphore_queue i) t → u ≡ with_count_of i (n + 1) t → u ≡ post i t
  unfolding post
  post-counts count none made = rw (← count, ← none) made

  pub post-gives : (w : ℕ) → written w ≡ first_in (semaphore_queue i) t → u ≡ ended given w t → u ≡ post i t
  unfolding post
  post-gives w first made =
      let it : first_in (semaphore_queue i) t - 1 ≡ w = omega (arith, first) in
      rw (it, ne_eqb (first_in (semaphore_queue i) t) 0 (λ z. omega (arith, first, z))) made

-- a count that can go no further, and one that can
module _ (i : ℕ) (t : Table) {n : ℕ} (count : n ≡ (semaphore_of t i).count) where
  pub full : n ≡ most_count → count_full ≡ cond (leb most_count (semaphore_of t i).count) count_full done
  full e = rw (← count, e)

  pub not-full : n < most_count → done ≡ cond (leb most_count (semaphore_of t i).count) count_full done
  not-full l = rw (← count, lt-leb _ _ l)
