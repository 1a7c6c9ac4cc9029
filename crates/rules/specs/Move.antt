-- "Move": how tasks change their places. `put` is the one door; `rotate` is the one other move.
use Rattle.std.specs.Prelude.{Bool, true, false, cond, ◌&&◌, not, ℕ, zero, suc, ◌-◌, eqb, ltb}
use Rattle.queue.specs.Slots.{entered, without, moved}
use Rattle.rules.specs.Sizes.{task_count, level_count, waits_mutex, delayed, plain}
use Rattle.rules.specs.Chain.{fresh}
use Rattle.rules.specs.Walk.{walk_on}
use Rattle.rules.specs.declared.Task.{Task}
use Rattle.rules.specs.Table.{Table, queue_count, able_queue, task_of, holder_of, queue_of, works, first_in, is_able, written, with_task, with_queue, with_running, with_ready, with_work, with_left, with_state, with_mark, with_outcome}
use Rattle.rules.specs.Ready.{first_level, ready_without, ready_with}
use Rattle.rules.specs.Family.{place_of}

-- ---- the one door

-- Task i leaves queue q, if there is such a queue.
unfoldable pub leave : ℕ → ℕ → Table → Table
leave q i t =
    let word = cond (eqb q able_queue) (ready_without i t) t.ready in
    let out = with_ready word (with_queue q (without i (queue_of t q)) t) in
    cond (ltb q queue_count) out t

-- "Each is ordered by working priority". Task i comes into queue q, if there is such a queue: before its equals, or else behind them.
unfoldable pub join : Bool → ℕ → ℕ → Table → Table
join in_front q i t =
    let word = cond (eqb q able_queue) (ready_with i t) t.ready in
    let into = with_ready word (with_queue q (entered in_front (works t) i (queue_of t q)) t) in
    cond (ltb q queue_count) into t

-- Whether place and working priority are as before.
unfoldable pub stays : Task → Task → Bool
stays old new = eqb (place_of old) (place_of new) && eqb old.work new.work

-- "A task whose working priority becomes more urgent is to go before its equals at the new level, in the able queue and in every wait queue; a
-- lowered one goes behind as today. A new arrival still goes behind."
unfoldable pub is_raised : Task → Task → Bool
is_raised old new = eqb (place_of old) (place_of new) && ltb new.work old.work

-- "A task that becomes able goes behind its equals." Task i becomes k: where its place and its working priority are as before no queue is touched;
-- else it leaves its queue and comes into the other, before its equals where it is raised and else behind them. (A number that is no task's changes
-- nothing.) Of several that one call raises each goes before its equals, so the last one raised stands first.
unfoldable pub put : ℕ → Task → Table → Table
put i k t =
    let is_task = ltb i task_count in
    let is_there = stays (task_of t i) k in
    let there = with_task i k t in
    let elsewhere = join (is_raised (task_of t i) k) (place_of k) i (with_task i k (leave (place_of (task_of t i)) i t)) in
    cond is_task (cond is_there there elsewhere) t

-- "the caller goes behind its equals, left = quantum": the able task i, at the end of its turn.
unfoldable pub rotate : ℕ → Table → Table
rotate i t =
    let is_task = ltb i task_count in
    let full = with_task i (with_left (task_of t i).quantum (task_of t i)) t in
    let rotated = with_queue able_queue (moved (works t) i (queue_of t able_queue)) full in
    cond is_task rotated t

-- ---- the walk

-- The holder of the mutex for which j waits, or no task.
unfoldable pub next : Table → ℕ → ℕ
next t j =
    let waits = eqb (task_of t j).state waits_mutex in
    let holder = holder_of t (task_of t j).object in
    cond waits holder task_count

abbrev pub base_of : Table → ℕ → ℕ
base_of t j = (task_of t j).base

-- The working priority of task i, worked out afresh in the table as it is.
unfoldable pub fresh_in : Table → ℕ → ℕ
fresh_in t i = fresh task_count (next t) (base_of t) i

abbrev pub put_work : Table → ℕ → ℕ → Table
put_work t i p = put i (with_work p (task_of t i)) t

-- "Changes run along the chain: the task where it began, then the holder of the mutex it waits for, and so on, each task once. The
-- walk follows the chain of holders, which is never more than 32 tasks long." The count falls from 32, also round a ring.
abbrev pub walk : ℕ → Table → Table
walk i t = walk_on task_count next fresh_in put_work task_count i t

-- ---- waits that end

-- A task that has left its queue and waits for nothing: it stands nowhere.
abbrev pub away : Task → Task
away k = with_state delayed 0 (with_mark 0 0 k)

-- "becomes plain", with an outcome. "A wait or delay that ends clears its mark."
abbrev pub ready : ℕ → Task → Task
ready outcome k = with_outcome outcome (with_state plain 0 (with_mark 0 0 k))

-- "it leaves its queue, the chain from the holder moves, it becomes plain, with outcome .."; a wait for a semaphore or for flags and a delay
-- have no holder, and no chain moves.
unfoldable pub ended : ℕ → ℕ → Table → Table
ended outcome i t =
    let left = put i (away (task_of t i)) t in
    let settled = walk (next t i) left in
    put i (ready outcome (task_of settled i)) settled

-- "the same for each waiter from the first": the first waiter of queue q, again and again, n times at most.
unfoldable pub ended_all : ℕ → ℕ → ℕ → Table → Table
ended_all zero outcome q t = t
ended_all (suc n) outcome q t =
    let is_empty = eqb (first_in q t) 0 in
    let others = ended_all n outcome q (ended outcome (first_in q t - 1) t) in
    cond is_empty t others

-- ---- the running task

-- "Last, at depth 0, the first able task runs." "The first level is found by counting the word's leading zeros": its first task is the first of
-- the able queue, which stands in the order of levels.
unfoldable pub chosen : Table → Table
chosen t =
    let is_none = eqb (first_level t.ready) level_count in
    let first = cond is_none 0 (first_in able_queue t) in
    cond (eqb t.depth 0) (with_running first t) t

-- Whether the first n tasks have an able one other than i of the working priority of i.
unfoldable pub peer_below : ℕ → ℕ → Table → Bool
peer_below zero i t = false
peer_below (suc n) i t =
    let is_peer = not (eqb n i) && (is_able (task_of t n) && eqb (task_of t n).work (task_of t i).work) in
    let before = peer_below n i t in
    cond is_peer true before

-- "another able task has its working priority"
abbrev pub has_peer : ℕ → Table → Bool
has_peer i t = peer_below task_count i t

abbrev pub is_running : ℕ → Table → Bool
is_running i t = eqb t.running (written i)
