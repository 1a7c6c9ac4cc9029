-- What the moves leave as it is, whatever they do to the queues.
use Rattle.std.specs.Prelude.{◌≡◌, refl, [], ℕ, length}
use Rattle.std.proofs.Common.{sym, ap, ◌∙◌, length-set}
use Rattle.rules.specs.Table.{Table, task_of, is_able, with_work, with_tasks, with_queues, with_tick, with_default_quantum, with_depth, with_running, with_ready}
use Rattle.rules.specs.Family.{of_state, place_of}
use Rattle.rules.specs.Move.{put, rotate, walk, ended}
use Rattle.rules.specs.declared.Task.{Task}
use Rattle.laws.specs.queues.Put.{put_any, rotate_any, part-put, walk_keeps}

-- ---- parts of a table that moves leave alone

-- A table without its tasks, queues and word; without its objects too.
abbrev pub rest : Table → Table
rest t = with_tasks [] (with_queues [] (with_ready 0 t))

abbrev pub frame : Table → Table
frame t = record { tasks = []; semaphores = []; mutexes = []; groups = []; channels = []; queues = []; tick = t.tick; default_quantum = t.default_quantum; depth = t.depth; running = t.running; ready = 0; messages = [] }

-- The lists of t in the frame of f: where a call changes single numbers alone, it makes f of t, and `framed f t` is f.
abbrev pub framed : (f t : Table) → Table
framed f t = with_tick f.tick (with_default_quantum f.default_quantum (with_depth f.depth (with_running f.running t)))

-- A task without its working priority.
abbrev pub bare : Task → Task
bare k = with_work 0 k

-- Neither its place nor its being able turns on that.
pub bare-able : (k : Task) → is_able (bare k) ≡ is_able k
unfolding is_able
bare-able k = refl

pub bare-place : (k : Task) → place_of (bare k) ≡ place_of k
unfolding place_of of_state is_able
bare-place k = refl

-- ---- put

-- What a put leaves alone, and a walk too: objects, tick, depth, running task, and how many tasks there are.
pub put_rest : (i : ℕ) (k : Task) (t : Table) → rest (put i k t) ≡ rest t
put_rest i k t = put_any (λ u. rest u ≡ rest t) (λ q l w u e h. h) i k t refl refl

pub put-size : (i : ℕ) (k : Task) (t : Table) → length (put i k t).tasks ≡ length t.tasks
put-size i k t = put_any (λ u. length u.tasks ≡ length t.tasks) (λ q l w u e h. h) i k t refl (length-set t.tasks i k)

pub rotate_rest : (i : ℕ) (t : Table) → rest (rotate i t) ≡ rest t
rotate_rest i t = rotate_any (λ u. rest u ≡ rest t) (λ q l w u e h. h) i t refl refl

-- ---- the walk

pub walk_rest : (s : ℕ) (t : Table) → rest (walk s t) ≡ rest t
walk_rest = walk_keeps rest (λ u i p l. put_rest i (with_work p (task_of u i)) u)

pub walk-size : (s : ℕ) (t : Table) → length (walk s t).tasks ≡ length t.tasks
walk-size = walk_keeps (λ u. length u.tasks) (λ u i p l. put-size i (with_work p (task_of u i)) u)

-- But for its working priority each task is as it was.
pub walk-bare : (s : ℕ) (t : Table) (j : ℕ) → bare (task_of (walk s t) j) ≡ bare (task_of t j)
walk-bare s t j = walk_keeps (λ u. bare (task_of u j)) (λ u i p l. part-put bare i (with_work p (task_of u i)) u refl j) s t

-- It stands where it stood.
pub walk-place : (s : ℕ) (t : Table) (j : ℕ) → place_of (task_of (walk s t) j) ≡ place_of (task_of t j)
walk-place s t j = sym (bare-place (task_of (walk s t) j)) ∙ ap place_of (walk-bare s t j) ∙ bare-place (task_of t j)

-- The end of a wait leaves what a put and a walk leave.
pub ended_rest : (outcome i : ℕ) (t : Table) → rest (ended outcome i t) ≡ rest t
unfolding ended
ended_rest outcome i t = put_rest i _ _ ∙ walk_rest _ _ ∙ put_rest i _ t
