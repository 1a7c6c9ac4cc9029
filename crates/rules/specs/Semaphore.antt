-- Semaphores: what is their own. `Object` has their delete and their abort.
use Rattle.std.specs.Prelude.{cond, ℕ, ◌+◌, ◌-◌, leb}
use Rattle.rules.specs.Sizes.{most_count, given, done, count_full}
use Rattle.rules.specs.Table.{Table, nothing_asked, semaphore_of, semaphore_queue, first_in, counting, with_count, with_semaphore}
use Rattle.rules.specs.Move.{ended}
use Rattle.rules.specs.Family.{semaphores}
use Rattle.rules.specs.Object.{on_one, has_waiter, block_answer, wait_answer_on, waits, taken}

-- ---- "10 semaphore create (number, count 4 bytes)": it has the count that is given, and no waiter

unfoldable pub create : ℕ → ℕ → Table → Table
create s n t = with_semaphore s (counting n) t

-- Semaphore s with the count n.
abbrev pub with_count_of : ℕ → ℕ → Table → Table
with_count_of s n t = with_semaphore s (with_count n (semaphore_of t s)) t

-- ---- "A semaphore with count above 0 is taken (count less 1) .. outcome 0, also when locked."

unfoldable pub wait_answer : ℕ → ℕ → Table → ℕ
wait_answer s block t = wait_answer_on semaphores s block (cond (semaphores.offers t s) done (block_answer block t)) t

unfoldable pub wait : ℕ → ℕ → Table → Table
wait s limit t =
    let is_there = semaphores.offers t s in
    let takes = taken (with_count_of s ((semaphore_of t s).count - 1) t) in
    let blocks = waits semaphores s limit nothing_asked t in
    cond is_there takes blocks

-- ---- "Semaphore post: the first waiter is given it (outcome 0, count unchanged), else count plus 1."

-- "semaphore post at count 4,294,967,295"
unfoldable pub post_answer : ℕ → Table → ℕ
post_answer s t = on_one semaphores s t (cond (leb most_count (semaphore_of t s).count) count_full done)

unfoldable pub post : ℕ → Table → Table
post s t =
    let is_awaited = has_waiter (semaphore_queue s) t in
    let gives = ended given (first_in (semaphore_queue s) t - 1) t in
    let counts = with_count_of s ((semaphore_of t s).count + 1) t in
    cond is_awaited gives counts
