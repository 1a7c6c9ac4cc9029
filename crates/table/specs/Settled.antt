-- A task whose fields were stored, and the moves that make a `put` of it.
use Rattle.std.specs.Prelude.{◌≡◌, refl, Bool, true, false, cond, ◌&&◌, ℕ, ◌≤◌, ◌<◌, eqb, ltb}
use Rattle.std.proofs.Math.Path.{sym, ap}
use Rattle.std.proofs.Common.{◌∙◌, arith, get_or-set_same, set-set, le-ltb, eq-eqb, ne_eqb}
use Rattle.std.proofs.Math.ListN.{length}
use Rattle.rules.specs.declared.Task.{Task}
use Rattle.rules.specs.Sizes.{task_count}
use Rattle.rules.specs.Table.{Table, task_of, queue_count, is_able, no_task, with_task}
use Rattle.rules.specs.Family.{of_state, place_of}
use Rattle.rules.specs.Decides.{equals, itself, both}
use Rattle.rules.specs.Move.{leave, join, stays, is_raised, put}
use Rattle.laws.specs.queues.Put.{put_in, put-moves, leave_inv}
use Rattle.table.specs.Ready.{leave-stored}

-- Task i stood in queue q: where its place is another now, it leaves q and goes behind its equals in its own.
unfoldable pub settled : ℕ → ℕ → Table → Table
settled q i t =
    let place = place_of (task_of t i) in
    let moved = join false place i (leave q i t) in
    cond (eqb q place) t moved

module _ (q i : ℕ) (t : Table) where
  pub settled_there : q ≡ place_of (task_of t i) → settled q i t ≡ t
  unfolding settled
  settled_there e = rw (eq-eqb _ _ e)

  pub settled-moves : (q ≡ place_of (task_of t i) → ⊥) → settled q i t ≡ join false (place_of (task_of t i)) i (leave q i t)
  unfolding settled
  settled-moves d = rw (ne_eqb _ _ d)

  -- No queue has such a number.
  pub leave_none : queue_count ≤ q → leave q i t ≡ t
  unfolding leave
  leave_none h = rw (le-ltb q queue_count h)

  pub join_none : (ahead : Bool) → queue_count ≤ q → join ahead q i t ≡ t
  unfolding join
  join_none ahead h = rw (le-ltb q queue_count h)

-- The record of a free number stands in none.
pub free-nowhere : queue_count ≤ place_of no_task
unfolding place_of of_state is_able
free-nowhere = omega arith

-- No task's record changes.
leave-tasks : (q i : ℕ) (t : Table) → (leave q i t).tasks ≡ t.tasks
leave-tasks q i t = leave_inv (λ u. u.tasks ≡ t.tasks) (λ p r w u e h. h) q i t refl

-- ---- what is stored

module _ (i : ℕ) (t : Table) (l : i < task_count) (size : length t.tasks ≡ task_count) where
  pub task-stored : (k : Task) → task_of (with_task i k t) i ≡ k
  task-stored k = get_or-set_same t.tasks i k no_task (omega arith)

  -- Fields stored after others: the table u has the record k already.
  pub then_stored : (f : Task → Task) (k : Task) (u : Table) → u ≡ with_task i k t → with_task i (f (task_of u i)) u ≡ with_task i (f k) t
  then_stored f k u e =
      ap (λ (x : Table). with_task i (f (task_of x i)) x) e
      ∙ ap (λ (x : Task). with_task i (f x) (with_task i k t)) (task-stored k)
      ∙ rw (set-set)

and-true : (b : Bool) → (b && true) ≡ b
and-true true = refl
and-true false = refl

and-false : (b : Bool) → (b && false) ≡ false
and-false true = refl
and-false false = refl

-- ---- who is raised

-- Only in its place.
raised-place : (old new : Task) → is_raised old new ≡ true → place_of old ≡ place_of new
unfolding is_raised
raised-place old new h = ((both equals itself).holds h).0

-- With the working priority as before nobody is.
not_raised : (old new : Task) → old.work ≡ new.work → is_raised old new ≡ false
unfolding is_raised
not_raised old new w = rw (le-ltb new.work old.work (omega arith)) (and-false (eqb (place_of old) (place_of new)))

-- Who stood in no queue arrives.
arrives : (old new : Task) (i : ℕ) (t : Table) → queue_count ≤ place_of old → join (is_raised old new) (place_of new) i t ≡ join false (place_of new) i t
arrives old new i t h = go (is_raised old new) refl
  where
    go : (b : Bool) → is_raised old new ≡ b → join b (place_of new) i t ≡ join false (place_of new) i t
    go false e = refl
    go true e =
        let none : queue_count ≤ place_of new = omega (arith, raised-place old new e) in
        join_none _ i t true none ∙ sym (join_none _ i t false none)

-- ---- the ways through a put

module _ (i : ℕ) (k : Task) (t : Table) (l : i < task_count) where
  same_place : stays (task_of t i) k ≡ true → place_of (task_of t i) ≡ place_of k
  unfolding stays
  same_place h = ((both equals itself).holds h).0

  put_same : stays (task_of t i) k ≡ true → put i k t ≡ with_task i k t
  put_same h = put_in i k t l ∙ rw h

  -- A record that stands in no queue: the task leaves its own.
  pub put-leaves : queue_count ≤ place_of k → put i k t ≡ with_task i k (leave (place_of (task_of t i)) i t)
  put-leaves h = go (stays (task_of t i) k) refl
    where
      go : (b : Bool) → stays (task_of t i) k ≡ b → put i k t ≡ with_task i k (leave (place_of (task_of t i)) i t)
      go true e = put_same e ∙ ap (with_task i k) (sym (leave_none _ i t (omega (arith, same_place e))))
      go false e = put-moves i k t l e ∙ join_none _ i _ _ h

  -- A task that stands in no queue joins that of its record.
  pub put-joins : queue_count ≤ place_of (task_of t i) → put i k t ≡ join false (place_of k) i (with_task i k t)
  put-joins h = go (stays (task_of t i) k) refl
    where
      go : (b : Bool) → stays (task_of t i) k ≡ b → put i k t ≡ join false (place_of k) i (with_task i k t)
      go true e = put_same e ∙ sym (join_none _ i (with_task i k t) false (omega (arith, same_place e)))
      go false e =
          put-moves i k t l e ∙ ap (λ (u : Table). join (is_raised (task_of t i) k) (place_of k) i (with_task i k u)) (leave_none _ i t h)
          ∙ arrives (task_of t i) k i (with_task i k t) h

  -- A record with the working priority as before: the task settles.
  pub put_settles : length t.tasks ≡ task_count → (task_of t i).work ≡ k.work → put i k t ≡ settled (place_of (task_of t i)) i (with_task i k t)
  unfolding stays settled
  put_settles size w =
      let stands : task_of (with_task i k t) i ≡ k = task-stored i t l size k in
      put_in i k t l ∙ rw (eq-eqb _ _ w, stands, not_raised (task_of t i) k w, and-true (eqb (place_of (task_of t i)) (place_of k)), leave-stored (place_of (task_of t i)) i k t (sym w))

  -- Another working priority: it leaves its queue with the old one and comes into its own with the new.
  pub put-works : ((task_of t i).work ≡ k.work → ⊥) → put i k t ≡ join (is_raised (task_of t i) k) (place_of k) i (with_task i k (leave (place_of (task_of t i)) i t))
  unfolding stays
  put-works d = put-moves i k t l (rw (ne_eqb _ _ d, and-false (eqb (place_of (task_of t i)) (place_of k))))

  -- ---- the same, of the table u where the record is stored and of the queues that were read: q before, p after

  pub left_put : (u : Table) → u ≡ with_task i k t → (q : ℕ) → q ≡ place_of (task_of t i) → (task_of t i).work ≡ k.work → queue_count ≤ place_of k → leave q i u ≡ put i k t
  left_put u e q a w h = rw (a, e) (leave-stored (place_of (task_of t i)) i k t (sym w) ∙ sym (put-leaves h))

  module _ (size : length t.tasks ≡ task_count) (u : Table) (e : u ≡ with_task i k t) where
    place_after : place_of (task_of u i) ≡ place_of k
    place_after = ap (λ (x : Table). place_of (task_of x i)) e ∙ ap place_of (task-stored i t l size k)

    pub settled-put : (q : ℕ) → q ≡ place_of (task_of t i) → (task_of t i).work ≡ k.work → settled q i u ≡ put i k t
    settled-put q a w = rw (a, e) (sym (put_settles size w))

    pub joined-put : (p : ℕ) → p ≡ place_of (task_of u i) → queue_count ≤ place_of (task_of t i) → join false p i u ≡ put i k t
    joined-put p b h = rw (b, place_after, e) (sym (put-joins h))

  -- Another working priority: the table u, which the task has left, the table v, where its record is stored, and its queue p.
  pub moved-put : length t.tasks ≡ task_count → (u v : Table) (q p : ℕ) → q ≡ place_of (task_of t i) → u ≡ leave q i t → v ≡ with_task i k u → p ≡ place_of (task_of v i)
      → ((task_of t i).work ≡ k.work → ⊥) → join (eqb q p && ltb k.work (task_of t i).work) p i v ≡ put i k t
  unfolding is_raised
  moved-put size u v q p a b e h d =
      let long : length u.tasks ≡ task_count = ap (λ (x : Table). length x.tasks) b ∙ ap length (leave-tasks q i t) ∙ size in
      let place : p ≡ place_of k = h ∙ ap (λ (x : Table). place_of (task_of x i)) e ∙ ap place_of (task-stored i u l long k) in
      let stored : v ≡ with_task i k (leave (place_of (task_of t i)) i t) = e ∙ ap (with_task i k) (b ∙ ap (λ (x : ℕ). leave x i t) a) in
      rw (a, place) (ap (join (is_raised (task_of t i) k) (place_of k) i) stored) ∙ sym (put-works d)
