-- What the moves change and what they leave: put, rotate and the walk.
use Rattle.std.specs.Prelude.{◌≡◌, refl, ◌⊎◌, ◌≢◌, Bool, true, false, cond, not, List, [], ◌∷◌, map, ℕ, zero, suc, ◌≤◌, ◌<◌, ltb, length, get_or, set}
use Rattle.std.proofs.Common.{ap, ◌∙◌, inl, inr, ⊎_elim, arith, length-set, get_or-set_same, get_or-set_other, lt-ltb, le-ltb, eq-eqb}
use Rattle.std.proofs.lemmas.Bool.{false≢true}
use Rattle.std.proofs.Math.Decide.{ℕ_discrete}
use Rattle.std.proofs.Math.ListN.{get_or-map}
use Rattle.std.proofs.Math.Seq.{set_out, map-set_same}
use Rattle.queue.specs.Slots.{moved}
use Rattle.queue.specs.Lengths.{length-entered, length_without, length-replaced}
use Rattle.rules.specs.Decides.{Decides}
use Rattle.rules.specs.Afresh.{lt_or_le}
use Rattle.rules.specs.Sizes.{task_count}
use Rattle.rules.specs.Table.{Table, task_of, queue_of, queue_count, able_queue, works, is_able, no_task, with_task, with_queue, with_ready, with_left}
use Rattle.rules.specs.Family.{of_state, place_of}
use Rattle.rules.specs.Move.{leave, join, stays, is_raised, put, rotate, put_work, walk, next, fresh_in}
use Rattle.rules.specs.Sound.{Shaped, SoundWithin}
use Rattle.rules.specs.declared.Task.{Task}
use Rattle.laws.specs.chains.Walk.{walk_on_inv, walk_on_keeps}

-- ---- choices and lists

-- What holds of both holds of the one that is picked.
pub whichever : {A : Type 0} (P : A → Type 0) (b : Bool) {x y : A} → P x → P y → P (cond b x y)
whichever P true p q = p
whichever P false p q = q

-- The same of three that turn on one test.
pub whichever₃ : {A B C : Type 0} (P : A → B → C → Type 0) (b : Bool) {x u : A} {y v : B} {z w : C} → P x y z → P u v w → P (cond b x u) (cond b y v) (cond b z w)
whichever₃ P true h k = h
whichever₃ P false h k = k

-- The one or the other, as the test decides.
pub pick : {A : Type 0} (P : A → Type 0) {b : Bool} {x y : A} {B : Type 0} → Decides b B → (B → P x) → ((B → ⊥) → P y) → P (cond b x y)
pick {A} P {b} {x} {y} {B} d f g = go b d
  where
    go : (b : Bool) → Decides b B → P (cond b x y)
    go true d = f (d.holds refl)
    go false d = g (λ p. false≢true (d.passes p))

pub pick_not : {A : Type 0} (P : A → Type 0) {b : Bool} {x y : A} {B : Type 0} → Decides b B → ((B → ⊥) → P x) → (B → P y) → P (cond (not b) x y)
pick_not {A} P {b} {x} {y} {B} d f g = go b d
  where
    go : (b : Bool) → Decides b B → P (cond (not b) x y)
    go true d = g (d.holds refl)
    go false d = f (λ p. false≢true (d.passes p))

pub map-set : {A B : Type 0} (f : A → B) (l : List A) (i : ℕ) (x : A) → map f (set l i x) ≡ set (map f l) i (f x)
map-set f [] i x = refl
map-set f (y ∷ l) zero x = refl
map-set f (y ∷ l) (suc i) x = ap (λ r. f y ∷ r) (map-set f l i x)

-- What holds of the one that is stored, and of each before, holds of each after.
pub set_each : {A : Type 0} (P : ℕ → A → Type 0) (l : List A) (i j : ℕ) (x none : A) → P i x → P j (get_or l j none) → P j (get_or (set l i x) j none)
set_each P l i j x none new old = go (ℕ_discrete j i) (lt_or_le i (length l))
  where
    go : Dec (j ≡ i) → (i < length l) ⊎ (length l ≤ i) → P j (get_or (set l i x) j none)
    go (no d) r = rw (get_or-set_other l i j x none d) old
    go (yes e) (inl m) = rw e (rw (get_or-set_same l i x none m) new)
    go (yes e) (inr m) = rw (set_out l i x m) old

-- The same of two lists, where both have one stored at one number.
pub set_both : {A B : Type 0} (P : ℕ → A → B → Type 0) (l : List A) (m : List B) (i j : ℕ) (x : A) (y : B) (none : A) (no_one : B) → i < length l → i < length m → P i x y
    → P j (get_or l j none) (get_or m j no_one)
    → P j (get_or (set l i x) j none) (get_or (set m i y) j no_one)
set_both P l m i j x y none no_one a b new old = go (ℕ_discrete j i)
  where
    go : Dec (j ≡ i) → P j (get_or (set l i x) j none) (get_or (set m i y) j no_one)
    go (no d) = rw (get_or-set_other l i j x none d, get_or-set_other m i j y no_one d) old
    go (yes e) = rw e (rw (get_or-set_same l i x none a, get_or-set_same m i y no_one b) new)

-- What a new element shares with the old one, each element keeps.
pub part-set : {A B : Type 0} (f : A → B) (l : List A) (i : ℕ) (x : A) (j : ℕ) (d : A) → f x ≡ f (get_or l i d) → f (get_or (set l i x) j d) ≡ f (get_or l j d)
part-set f l i x j d e = set_each (λ n y. f y ≡ f (get_or l n d)) l i j x d e refl

-- ---- put and rotate, without their guards

-- Task i becomes k and moves.
abbrev pub shifted : ℕ → Task → Table → Table
shifted i k t = join (is_raised (task_of t i) k) (place_of k) i (with_task i k (leave (place_of (task_of t i)) i t))

-- A task with its whole quantum left.
abbrev pub refilled : Task → Task
refilled k = with_left k.quantum k

pub put_in : (i : ℕ) (k : Task) (t : Table) → i < task_count → put i k t ≡ cond (stays (task_of t i) k) (with_task i k t) (shifted i k t)
unfolding put
put_in i k t l = rw (lt-ltb i task_count l)

pub put_out : (i : ℕ) (k : Task) (t : Table) → task_count ≤ i → put i k t ≡ t
unfolding put
put_out i k t l = rw (le-ltb i task_count l)

-- Where place or working priority is another, the task moves.
pub put-moves : (i : ℕ) (k : Task) (t : Table) → i < task_count → stays (task_of t i) k ≡ false → put i k t ≡ shifted i k t
put-moves i k t l e = put_in i k t l ∙ rw e

-- Where place and working priority are as before, the record alone changes.
pub put-stays : (i : ℕ) (k : Task) (t : Table) → i < task_count → place_of (task_of t i) ≡ place_of k → (task_of t i).work ≡ k.work → put i k t ≡ with_task i k t
unfolding stays
put-stays i k t l p w = put_in i k t l ∙ rw (eq-eqb _ _ p, eq-eqb _ _ w)

pub rotate_in : (i : ℕ) (t : Table) → i < task_count
    → rotate i t ≡ with_queue able_queue (moved (works t) i (queue_of t able_queue)) (with_task i (refilled (task_of t i)) t)
unfolding rotate
rotate_in i t l = rw (lt-ltb i task_count l)

pub rotate_out : (i : ℕ) (t : Table) → task_count ≤ i → rotate i t ≡ t
unfolding rotate
rotate_out i t l = rw (le-ltb i task_count l)

-- ---- what neither a queue nor the word bears on

-- It holds after a queue and the word have changed.
abbrev pub Aside : (Table → Type 0) → Type 0
Aside P = (q : ℕ) (l : List ℕ) (w : ℕ) (t : Table) → length l ≡ length (queue_of t q) → P t → P (with_ready w (with_queue q l t))

module _ (P : Table → Type 0) (queue : Aside P) where
  pub leave_inv : (q i : ℕ) (t : Table) → P t → P (leave q i t)
  unfolding leave
  leave_inv q i t h = whichever P (ltb q queue_count) (queue q _ _ t (length_without i (queue_of t q)) h) h

  pub join_inv : (in_front : Bool) (q i : ℕ) (t : Table) → P t → P (join in_front q i t)
  unfolding join
  join_inv in_front q i t h = whichever P (ltb q queue_count) (queue q _ _ t (length-entered in_front (works t) i (queue_of t q)) h) h

module _ (P : Table → Type 0) (queue : Aside P) where
  -- It holds after a put, where it holds when the task alone has changed.
  pub put_inv : (i : ℕ) (k : Task) (t : Table) → i < task_count → P (with_task i k t) → P (put i k t)
  put_inv i k t l h =
      rw (put_in i k t l)
      (whichever P (stays (task_of t i) k) h (join_inv P queue _ _ i _ (leave_inv (λ u. P (with_task i k u)) (λ q m w u e r. queue q m w (with_task i k u) e r) _ i t h)))

  pub rotate_inv : (i : ℕ) (t : Table) → i < task_count → P (with_task i (refilled (task_of t i)) t) → P (rotate i t)
  rotate_inv i t l h = rw (rotate_in i t l) (queue able_queue _ _ _ (length-replaced false (works t) i (queue_of t able_queue)) h)

  -- The same for any number, also one that is no task's, where it held before.
  pub put_any : (i : ℕ) (k : Task) (t : Table) → P t → P (with_task i k t) → P (put i k t)
  put_any i k t old h = ⊎_elim (λ l. put_inv i k t l h) (λ l. rw (put_out i k t l) old) (lt_or_le i task_count)

  pub rotate_any : (i : ℕ) (t : Table) → P t → P (with_task i (refilled (task_of t i)) t) → P (rotate i t)
  rotate_any i t old h = ⊎_elim (λ l. rotate_inv i t l h) (λ l. rw (rotate_out i t l) old) (lt_or_le i task_count)

-- ---- tasks

-- u is t with the record k for task i; queues aside.
pub record Stored (i : ℕ) (k : Task) (t u : Table) : Type 0 where
  pub tasks : u.tasks ≡ set t.tasks i k
  pub mutexes : u.mutexes ≡ t.mutexes

stored-queue : {i : ℕ} {k : Task} {t : Table} → Aside (Stored i k t)
stored-queue q l w u e h = record { tasks = h.tasks; mutexes = h.mutexes }

pub put-stored : (i : ℕ) (k : Task) (t : Table) → i < task_count → Stored i k t (put i k t)
put-stored i k t l = put_inv (Stored i k t) stored-queue i k t l (record { tasks = refl; mutexes = refl })

-- A rotation changes what is left to the one task.
pub rotate-stored : (i : ℕ) (t : Table) → i < task_count → Stored i (refilled (task_of t i)) t (rotate i t)
rotate-stored i t l = rotate_inv (Stored i (refilled (task_of t i)) t) stored-queue i t l (record { tasks = refl; mutexes = refl })

pub task-put_same : (i : ℕ) (k : Task) (t : Table) → i < task_count → length t.tasks ≡ task_count → task_of (put i k t) i ≡ k
task-put_same i k t l size = rw (put-stored i k t l).tasks (get_or-set_same t.tasks i k no_task (omega arith))

-- What holds of the new record, and of each task before, holds of each after.
pub put_each : (P : ℕ → Task → Type 0) (i : ℕ) (k : Task) (t : Table) (j : ℕ) → P i k → P j (task_of t j) → P j (task_of (put i k t) j)
put_each P i k t j new old = put_any (λ u. P j (task_of u j)) (λ q m w u e h. h) i k t old (set_each P t.tasks i j k no_task new old)

pub task-put : (i : ℕ) (k : Task) (t : Table) (j : ℕ) → j ≢ i → task_of (put i k t) j ≡ task_of t j
task-put i k t j d = put_each (λ n x. n ≢ i → x ≡ task_of t n) i k t j (λ e. absurd (e refl)) (λ e. refl) d

-- What a put of task i leaves of that task's record, it leaves of each.
pub part-put : {A : Type 0} (f : Task → A) (i : ℕ) (k : Task) (t : Table) → f k ≡ f (task_of t i) → (j : ℕ) → f (task_of (put i k t) j) ≡ f (task_of t j)
part-put f i k t same j = put_each (λ n x. f x ≡ f (task_of t n)) i k t j same refl

-- A rotation leaves all of each task but what is left.
pub part-rotate : {A : Type 0} (f : Task → A) → ((n : ℕ) (k : Task) → f (with_left n k) ≡ f k) → (i : ℕ) (t : Table) (j : ℕ) → f (task_of (rotate i t) j) ≡ f (task_of t j)
part-rotate f same i t j = rotate_any (λ u. f (task_of u j) ≡ f (task_of t j)) (λ q m w u e h. h) i t refl (part-set f t.tasks i _ j no_task (same _ (task_of t i)))

-- Four numbers of a task say where it stands.
pub place_same : (k m : Task) → m.used ≡ k.used → m.state ≡ k.state → m.suspend ≡ k.suspend → m.object ≡ k.object → place_of m ≡ place_of k
unfolding place_of of_state is_able
place_same k m u s p o = rw (u, s, p, o)

-- What is left of a quantum does not make a task able.
pub able_left : (n : ℕ) (k : Task) → is_able (with_left n k) ≡ is_able k
unfolding is_able
able_left n k = refl

-- ---- working priorities

pub work_at : (t : Table) (j : ℕ) → get_or (works t) j 0 ≡ (task_of t j).work
unfolding works
work_at t j = get_or-map (λ k. k.work) t.tasks j no_task

pub works-put : (i : ℕ) (k : Task) (t : Table) → i < task_count → works (put i k t) ≡ set (works t) i k.work
unfolding works
works-put i k t l = rw (put-stored i k t l).tasks (map-set (λ k. k.work) t.tasks i k)

pub works-rotate : (i : ℕ) (t : Table) → works (rotate i t) ≡ works t
unfolding works
works-rotate i t = rotate_any (λ u. works u ≡ works t) (λ q m w u e h. h) i t refl (map-set_same (λ k. k.work) t.tasks i _ no_task refl)

-- ---- a queue that a put leaves alone

-- A change of another queue, if there is one.
pub queue_other : (b : Bool) (p q : ℕ) (l : List ℕ) (w : ℕ) (t : Table) → q ≢ p → queue_of (cond b (with_ready w (with_queue p l t)) t) q ≡ queue_of t q
queue_other b p q l w t d = whichever (λ u. queue_of u q ≡ queue_of t q) b (get_or-set_other t.queues p q l [] d) refl

-- ---- shape

pub queue-shaped : Aside Shaped
queue-shaped q l w t e s =
    record {
      tasks = s.tasks;
      semaphores = s.semaphores;
      mutexes = s.mutexes;
      groups = s.groups;
      channels = s.channels;
      queues = length-set t.queues q l ∙ s.queues;
      slots = λ p m. part-set length t.queues q l p [] e ∙ s.slots p m;
      messages = s.messages;
      rows = s.rows;
    }

pub task-shaped : {t : Table} (i : ℕ) (k : Task) → Shaped t → Shaped (with_task i k t)
task-shaped {t} i k s =
    record { tasks = length-set t.tasks i k ∙ s.tasks; semaphores = s.semaphores; mutexes = s.mutexes; groups = s.groups; channels = s.channels; queues = s.queues; slots = s.slots; messages = s.messages; rows = s.rows }

pub put-shaped : {t : Table} (i : ℕ) (k : Task) → Shaped t → Shaped (put i k t)
put-shaped {t} i k s = put_any Shaped queue-shaped i k t s (task-shaped i k s)

pub rotate-shaped : {t : Table} (i : ℕ) → Shaped t → Shaped (rotate i t)
rotate-shaped {t} i s = rotate_any Shaped queue-shaped i t s (task-shaped i _ s)

-- A table with right queues has all its tasks.
pub sized : {t : Table} → SoundWithin t → length t.tasks ≡ task_count
sized s = s.queued.shaped.tasks

-- ---- the walk

-- What holds and each new working priority leaves so, holds after the walk.
pub walk_inv : (P : Table → Type 0) → ((t : Table) (i : ℕ) → i < task_count → P t → P (put_work t i (fresh_in t i))) → (s : ℕ) {t : Table} → P t → P (walk s t)
walk_inv P keep s {t} h = walk_on_inv task_count next fresh_in put_work P keep task_count s t h

pub walk_keeps : {A : Type 0} (f : Table → A) → ((t : Table) (i p : ℕ) → i < task_count → f (put_work t i p) ≡ f t) → (s : ℕ) (t : Table) → f (walk s t) ≡ f t
walk_keeps f keep s t = walk_on_keeps task_count next fresh_in put_work f keep task_count s t
