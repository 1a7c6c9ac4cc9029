-- The calls that every kind of object has, over its family: create, delete, a wait that blocks, abort.
use Rattle.std.specs.Prelude.{Bool, cond, not, ◌&&◌, ℕ, ◌-◌, eqb, ltb, leb}
use Rattle.rules.specs.Sizes.{task_count, given, aborted, object_deleted, done, beyond_range, not_in_use, in_use, bad_value, while_locked, nothing_to_take, no_waiter, still_needed, blocks}
use Rattle.rules.specs.declared.Task.{Task}
use Rattle.rules.specs.Table.{Table, Asked, task_of, is_used, first_in, with_state, with_mark, with_outcome, with_asked}
use Rattle.rules.specs.Move.{put, walk, ended, ended_all}
use Rattle.rules.specs.Task.{is_locked}
use Rattle.rules.specs.Time.{by_caller, caller_of, mark_in}
use Rattle.rules.specs.Family.{Family, waiters_of}

-- The answer of a call on object o of `count`, which is in range and in use, or else the number that says what is wrong.
abbrev pub on_object : (count o used answer : ℕ) → ℕ
on_object count o used answer = cond (leb count o) beyond_range (cond (not (is_used used)) not_in_use answer)

-- "create: the number is in use"
abbrev pub create_object : (count o used : ℕ) → ℕ
create_object count o used = cond (leb count o) beyond_range (cond (is_used used) in_use done)

-- The answer of a call on number o of the family, which is in use.
abbrev pub on_one : Family → ℕ → Table → ℕ → ℕ
on_one f o t answer = on_object f.count o (f.used t o) answer

unfoldable pub object_create_answer : Family → ℕ → Table → ℕ
object_create_answer f o t = create_object f.count o (f.used t o)

-- "a yes/no byte above 1"
abbrev pub yes_no : ℕ → ℕ → ℕ
yes_no byte answer = cond (ltb 1 byte) bad_value answer

abbrev pub has_waiter : ℕ → Table → Bool
has_waiter q t = not (eqb (first_in q t) 0)

-- ---- "Wait takes a yes/no for blocking, and a time limit; 0 means for ever, else a due mark as for a delay. A non-blocking wait
-- ignores its limit."

-- A wait that finds nothing to take: "a wait 8 before 7"; 14: "a wait is accepted and blocks".
abbrev pub block_answer : ℕ → Table → ℕ
block_answer block t = cond (eqb block 0) nothing_to_take (cond (is_locked t) while_locked blocks)

abbrev pub limited : ℕ → Table → Task → Task
limited limit t k = cond (eqb limit 0) (with_mark 0 0 k) (with_mark 1 (mark_in limit t) k)

-- "the caller leaves the able queue, goes behind its equals in the object's queue"; what it asks of flags stands in its record
unfoldable pub blocked : (state object limit : ℕ) → Asked → Table → Table
blocked state object limit a t = put (caller_of t) (with_asked a (with_state state object (limited limit t (task_of t (caller_of t))))) t

-- "and for a mutex the chain from the holder moves"
unfoldable pub waits : Family → (o limit : ℕ) → Asked → Table → Table
waits f o limit a t = walk (f.holder t o) (blocked f.state o limit a t)

-- The answer of a wait for number o, with the answer where it is in use.
abbrev pub wait_answer_on : Family → (o block answer : ℕ) → Table → ℕ
wait_answer_on f o block answer t = by_caller t (on_one f o t (yes_no block answer))

-- "outcome 0" of the caller, who takes the object at once
unfoldable pub taken : Table → Table
taken t = put (caller_of t) (with_outcome given (task_of t (caller_of t))) t

-- ---- "Abort: the first waiter leaves, the chain from the holder moves, the waiter becomes plain, outcome 2."

-- "19 abort without a waiter"
abbrev pub abort_answer : ℕ → Table → ℕ
abort_answer q t = cond (not (has_waiter q t)) no_waiter done

unfoldable pub abort : ℕ → Table → Table
abort q t = ended aborted (first_in q t - 1) t

unfoldable pub object_abort_answer : Family → ℕ → Table → ℕ
object_abort_answer f o t = on_one f o t (abort_answer (waiters_of f o) t)

unfoldable pub object_abort : Family → ℕ → Table → Table
object_abort f o t = abort (waiters_of f o) t

-- ---- "Forced delete: the same for each waiter from the first, outcome 3, then the object goes"

-- "unforced delete of an object with waiters"
abbrev pub delete_answer : (force q : ℕ) → Table → ℕ
delete_answer force q t = yes_no force (cond (eqb force 0 && has_waiter q t) still_needed done)

abbrev pub emptied : ℕ → Table → Table
emptied q t = ended_all task_count object_deleted q t

unfoldable pub object_delete_answer : Family → (o force : ℕ) → Table → ℕ
object_delete_answer f o force t = on_one f o t (delete_answer force (waiters_of f o) t)

-- "its holder is recomputed and its chain moved"
unfoldable pub object_delete : Family → ℕ → Table → Table
object_delete f o t = walk (f.holder t o) (f.gone o (emptied (waiters_of f o) t))
