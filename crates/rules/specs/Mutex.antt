-- Mutexes: what is their own. `Object` has their delete and their abort.
use Rattle.std.specs.Prelude.{Bool, cond, not, ℕ, ◌+◌, ◌-◌, eqb, leb, ltb}
use Rattle.rules.specs.Sizes.{most_nested, given, done, not_its_holder, nested_too_deep}
use Rattle.rules.specs.Table.{Table, nothing_asked, task_of, mutex_of, mutex_queue, first_in, written, held_by, with_hold, with_mutex}
use Rattle.rules.specs.Move.{put, walk, ready}
use Rattle.rules.specs.Time.{by_caller, caller_of}
use Rattle.rules.specs.Family.{mutexes}
use Rattle.rules.specs.Object.{on_one, block_answer, wait_answer_on, waits, taken}

-- "A mutex is free, or has a holder"
abbrev pub is_held : ℕ → Table → Bool
is_held m t = not (eqb (mutex_of t m).holder 0)

abbrev pub is_own : ℕ → Table → Bool
is_own m t = eqb (mutex_of t m).holder (written (caller_of t))

-- ---- "20 mutex create (number)": it is free

unfoldable pub create : ℕ → Table → Table
create m t = with_mutex m (held_by 0 0) t

-- Mutex m, held by the task written h, 0 for none, n times over.
abbrev pub with_hold_of : ℕ → ℕ → ℕ → Table → Table
with_hold_of m h n t = with_mutex m (with_hold h n (mutex_of t m)) t

-- ---- "a free mutex is taken (nesting 1), a holder's own mutex is nested once more; outcome 0, also when locked. Otherwise the
-- caller leaves the able queue, goes behind its equals in the object's queue, and for a mutex the chain from the holder moves."

-- Of a mutex in use.
abbrev pub take_answer : ℕ → ℕ → Table → ℕ
take_answer m block t =
    cond (not (is_held m t)) done
    (cond (is_own m t) (cond (leb most_nested (mutex_of t m).nesting) nested_too_deep done)
    (block_answer block t))

unfoldable pub wait_answer : ℕ → ℕ → Table → ℕ
wait_answer m block t = wait_answer_on mutexes m block (take_answer m block t) t

unfoldable pub wait : ℕ → ℕ → Table → Table
wait m limit t =
    let is_free = not (is_held m t) in
    let is_nested = is_own m t in
    let takes = taken (with_hold_of m (written (caller_of t)) 1 t) in
    let nests = taken (with_hold_of m (mutex_of t m).holder ((mutex_of t m).nesting + 1) t) in
    let blocks = waits mutexes m limit nothing_asked t in
    cond is_free takes (cond is_nested nests blocks)

-- ---- "Mutex post: nesting less 1; at 0 the releaser moves first, then the first waiter becomes holder with nesting 1 and becomes
-- plain, outcome 0, or the mutex is free." While the releaser moves, the mutex no longer counts for it.

-- "mutex post by a task that is not its holder"
unfoldable pub post_answer : ℕ → Table → ℕ
post_answer m t = by_caller t (on_one mutexes m t (cond (not (is_own m t)) not_its_holder done))

-- The task written w is the new holder; none where w is 0.
unfoldable pub handed : ℕ → ℕ → Table → Table
handed m w t =
    let is_nobody = eqb w 0 in
    let holds = put (w - 1) (ready given (task_of t (w - 1))) (with_hold_of m w 1 t) in
    cond is_nobody t holds

unfoldable pub released : ℕ → Table → Table
released m t =
    let free = walk (caller_of t) (with_hold_of m 0 0 t) in
    handed m (first_in (mutex_queue m) free) free

unfoldable pub post : ℕ → Table → Table
post m t =
    let is_nested = ltb 1 (mutex_of t m).nesting in
    let keeps = with_hold_of m (mutex_of t m).holder ((mutex_of t m).nesting - 1) t in
    let gone = released m t in
    cond is_nested keeps gone
