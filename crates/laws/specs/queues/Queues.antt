-- Each move keeps the queues: each task stands once in the queue of its place, and in order.
use Rattle.std.specs.Prelude.{◌≡◌, refl, ◌≢◌, Bool, true, false, cond, List, [], ℕ, ◌+◌, ◌-◌, ◌≤◌, ◌<◌, eqb, ltb, length, set}
use Rattle.std.proofs.Common.{sym, ap, ◌∙◌, ⊎_elim, arith, get_or-set_same, get_or-set_other, eqb-true, eq-eqb, ne_eqb, lt-ltb}
use Rattle.std.proofs.Math.Decide.{ℕ_discrete}
use Rattle.std.proofs.lemmas.List.{set-get_or}
use Rattle.queue.specs.Slots.{stands, entered, without, replaced}
use Rattle.queue.specs.Order.{All, Ordered, one, count}
use Rattle.queue.specs.Lengths.{length_without, length-replaced}
use Rattle.queue.specs.Room.{room}
use Rattle.queue.specs.Counts.{one_same, one_other, stands-count, count-entered, count-without}
use Rattle.queue.specs.Keeps.{all_opened, all_closed, Agree, without-ordered, ordered-agree, replaced-ordered}
use Rattle.queue.specs.Stable.{without-absent}
use Rattle.rules.specs.Afresh.{lt_or_le}
use Rattle.rules.specs.Sizes.{task_count}
use Rattle.rules.specs.Table.{Table, task_of, queue_of, queue_count, able_queue, works, is_able, written, with_task, with_mutex, with_queue, with_ready, with_left}
use Rattle.rules.specs.Family.{place_of}
use Rattle.rules.specs.Move.{leave, join, stays, is_raised, put, rotate, walk}
use Rattle.rules.specs.Sound.{Each, once, Shaped, SoundReady, SoundQueues}
use Rattle.rules.proofs.Tested.{once_most}
use Rattle.rules.specs.declared.Task.{Task}
use Rattle.rules.specs.declared.Mutex.{Mutex}
use Rattle.laws.specs.queues.Stands.{able-place}
use Rattle.laws.specs.queues.Ready.{same_ready, shifted-ready, resting_ready}
use Rattle.laws.specs.queues.Shapes.{mutex-shaped}
use Rattle.laws.specs.queues.Put.{shifted, put_out, put-moves, put-stays, rotate_in, able_left, leave_inv, queue_other, put-stored, task-put, task-put_same, part-put, part-rotate, place_same, work_at, works-put, works-rotate, queue-shaped, put-shaped, rotate-shaped, walk_inv}

-- ---- one queue

-- The slots are those of a queue: with the tasks that `stand` there, each once, nothing else, and in order.
pub record QueueRight (keys : List ℕ) (stand : ℕ → Bool) (l : List ℕ) : Type 0 where
  slots : length l ≡ task_count
  counted : Each task_count (λ j. count (written j) l ≡ once (stand j))
  inside : All (λ v. v ≤ task_count) l
  ordered : Ordered keys l

module _ {old l : List ℕ} {before : ℕ → Bool} (keys : List ℕ) (stand : ℕ → Bool) (i : ℕ) (h : i < task_count) (agree : Agree old keys (written i))
    (others : (j : ℕ) → j ≢ i → stand j ≡ before j) (r : QueueRight old before l) where
  -- Task i is gone.
  gone : count (written i) (without i l) ≡ 0
  gone = omega (arith, count-without (written i) (λ e. omega arith) i l, one_same (written i), r.counted i h, once_most (before i))

  -- The other tasks stand there as before.
  others_stand : (j : ℕ) → j < task_count → j ≢ i → count (written j) (without i l) ≡ once (stand j)
  others_stand j m d =
      count-without (written j) (λ e. omega arith) i l
      ∙ omega (arith, one_other (written j) (written i) (λ e. d (omega arith)), r.counted j m, ap once (others j d))

  -- Where task i is not to stand it is taken out.
  out_right : stand i ≡ false → QueueRight keys stand (without i l)
  out_right e =
      record {
        slots = length_without i l ∙ r.slots;
        counted = λ j m. counted j m (ℕ_discrete j i);
        inside = all_closed _ (omega arith) r.inside;
        ordered = ordered-agree old keys (written i) agree gone (without-ordered i r.ordered);
      }
    where
      counted : (j : ℕ) → j < task_count → Dec (j ≡ i) → count (written j) (without i l) ≡ once (stand j)
      counted j m (yes d) = rw d (gone ∙ ap once (sym e))
      counted j m (no d) = others_stand j m d

  -- A slot is free for it.
  pub slot-free : stands 0 (without i l) ≡ true
  slot-free = room i (all_closed _ (omega arith) r.inside) (length_without i l ∙ r.slots) (λ j m. most j m (ℕ_discrete j i)) h gone
    where
      most : (j : ℕ) → j < task_count → Dec (j ≡ i) → count (written j) (without i l) ≤ 1
      most j m (yes d) = rw d (omega (arith, gone))
      most j m (no d) = omega (arith, others_stand j m d, once_most (stand j))

  -- Where it is to stand it comes in, before its equals or behind them.
  in_right : (in_front : Bool) → stand i ≡ true → QueueRight keys stand (replaced in_front keys i l)
  in_right in_front e =
      record {
        slots = length-replaced in_front keys i l ∙ r.slots;
        counted = λ j m. counted j m (ℕ_discrete j i);
        inside = all_opened _ (written i) (omega arith) (all_closed _ (omega arith) r.inside);
        ordered = replaced-ordered in_front keys i agree (omega (arith, r.counted i h, once_most (before i))) r.ordered;
      }
    where
      more : (j : ℕ) → count (written j) (replaced in_front keys i l) ≡ one (written j) (written i) + count (written j) (without i l)
      more j = count-entered (written j) (λ z. omega arith) in_front keys i (without i l) slot-free

      counted : (j : ℕ) → j < task_count → Dec (j ≡ i) → count (written j) (replaced in_front keys i l) ≡ once (stand j)
      counted j m (yes d) = rw d (more i ∙ omega (arith, one_same (written i), gone, ap once e))
      counted j m (no d) = more j ∙ omega (arith, one_other (written j) (written i) (λ z. d (omega arith)), others_stand j m d)

  renewed_right : (in_front b : Bool) → stand i ≡ b → QueueRight keys stand (cond b (replaced in_front keys i l) (without i l))
  renewed_right in_front true e = in_right in_front e
  renewed_right in_front false e = out_right e

-- A queue with the same keys and the same tasks.
same_right : {keys old l : List ℕ} {stand before : ℕ → Bool} → keys ≡ old → ((j : ℕ) → stand j ≡ before j) → QueueRight old before l → QueueRight keys stand l
same_right e same r = record { slots = r.slots; counted = λ j m. r.counted j m ∙ ap once (sym (same j)); inside = r.inside; ordered = rw e r.ordered }

-- ---- the queues of a table

-- Whether task j is to stand in queue q.
abbrev stands_in : Table → ℕ → ℕ → Bool
stands_in t q j = eqb (place_of (task_of t j)) q

pub queue_right : {t : Table} → SoundQueues t → (q : ℕ) → q < queue_count → QueueRight (works t) (stands_in t q) (queue_of t q)
queue_right s q m = record { slots = s.shaped.slots q m; counted = s.places q m; inside = s.nothing_else q m; ordered = s.ordered q m }

right_queued : {t : Table} → Shaped t → ((q : ℕ) → q < queue_count → QueueRight (works t) (stands_in t q) (queue_of t q)) → SoundReady t → SoundQueues t
right_queued s r w = record { shaped = s; places = λ q m. (r q m).counted; nothing_else = λ q m. (r q m).inside; ordered = λ q m. (r q m).ordered; ready = w }

-- ---- put

-- A change of queue p, if there is one, and the queues after it.
changed-queue : (f : List ℕ → List ℕ) (p q w : ℕ) (t : Table) → q < queue_count → length t.queues ≡ queue_count
    → queue_of (cond (ltb p queue_count) (with_ready w (with_queue p (f (queue_of t p)) t)) t) q ≡ cond (eqb p q) (f (queue_of t q)) (queue_of t q)
changed-queue f p q w t m s = go (ℕ_discrete p q)
  where
    go : Dec (p ≡ q) → queue_of (cond (ltb p queue_count) (with_ready w (with_queue p (f (queue_of t p)) t)) t) q ≡ cond (eqb p q) (f (queue_of t q)) (queue_of t q)
    go (yes e) = rw (lt-ltb p queue_count (omega arith), eq-eqb p q e) (rw e (get_or-set_same t.queues q _ [] (omega arith)))
    go (no d) = rw (ne_eqb p q d) (queue_other (ltb p queue_count) p q _ w t (λ e. d (sym e)))

leave-queue : (p i q : ℕ) (t : Table) → q < queue_count → length t.queues ≡ queue_count → queue_of (leave p i t) q ≡ cond (eqb p q) (without i (queue_of t q)) (queue_of t q)
unfolding leave
leave-queue p i q t = changed-queue (without i) p q _ t

join-queue : (in_front : Bool) (p i q : ℕ) (t : Table) → q < queue_count → length t.queues ≡ queue_count
    → queue_of (join in_front p i t) q ≡ cond (eqb p q) (entered in_front (works t) i (queue_of t q)) (queue_of t q)
unfolding join
join-queue in_front p i q t = changed-queue (entered in_front (works t) i) p q _ t

-- The one queue where task i may stand is without it.
left_queue : {t : Table} (i q : ℕ) → i < task_count → q < queue_count → SoundQueues t → queue_of (leave (place_of (task_of t i)) i t) q ≡ without i (queue_of t q)
left_queue {t} i q l m s = leave-queue (place_of (task_of t i)) i q t m s.shaped.queues ∙ go (stands_in t q i) refl
  where
    go : (b : Bool) → stands_in t q i ≡ b → cond b (without i (queue_of t q)) (queue_of t q) ≡ without i (queue_of t q)
    go true e = refl
    go false e = sym (without-absent i (queue_of t q) (stands-count (written i) (queue_of t q) (s.places q m i l ∙ ap once e)))

-- A task that moves stands in the queue of its place, and in no other.
shifted-queue : {t : Table} (i : ℕ) (k : Task) (q : ℕ) → i < task_count → q < queue_count → SoundQueues t
    → queue_of (shifted i k t) q ≡ cond (eqb (place_of k) q) (replaced (is_raised (task_of t i) k) (works (with_task i k t)) i (queue_of t q)) (without i (queue_of t q))
unfolding works
shifted-queue {t} i k q l m s =
    join-queue (is_raised (task_of t i) k) (place_of k) i q (with_task i k left) m (leave_inv Shaped queue-shaped _ i t s.shaped).queues
    ∙ rw (leave_inv (λ u. u.tasks ≡ t.tasks) (λ p r w u e h. h) (place_of (task_of t i)) i t refl, left_queue i q l m s)
  where
    left : Table
    left = leave (place_of (task_of t i)) i t

pub put-queue : {t : Table} (i : ℕ) (k : Task) (q : ℕ) → i < task_count → q < queue_count → SoundQueues t → stays (task_of t i) k ≡ false
    → queue_of (put i k t) q ≡ cond (eqb (place_of k) q) (replaced (is_raised (task_of t i) k) (works (put i k t)) i (queue_of t q)) (without i (queue_of t q))
unfolding works
put-queue {t} i k q l m s e = rw (put-stored i k t l).tasks (ap (λ u. queue_of u q) (put-moves i k t l e) ∙ shifted-queue i k q l m s)

-- The working priorities of the other tasks are as they were.
others-agree : (i : ℕ) (k : Task) (t : Table) → i < task_count → Agree (works t) (works (put i k t)) (written i)
others-agree i k t l x z d = rw (works-put i k t l) (get_or-set_other (works t) i (x - 1) k.work 0 (λ e. d (omega arith)))

-- Whatever a task becomes, it stands in the queue of its place.
pub put-queued : {t : Table} (i : ℕ) (k : Task) → SoundQueues t → SoundQueues (put i k t)
unfolding stays
put-queued {t} i k s = ⊎_elim (λ l. right_queued (put-shaped i k s.shaped) (λ q m. right l q m) (word l)) (λ l. rw (put_out i k t l) s) (lt_or_le i task_count)
  where
    moves : i < task_count → (q : ℕ) → q < queue_count → stays (task_of t i) k ≡ false → QueueRight (works (put i k t)) (stands_in (put i k t) q) (queue_of (put i k t) q)
    moves l q m e =
        rw (put-queue i k q l m s e)
        (renewed_right
        (works (put i k t))
        (stands_in (put i k t) q)
        i
        l
        (others-agree i k t l)
        (λ j d. ap (λ x. eqb (place_of x) q) (task-put i k t j d))
        (queue_right s q m)
        (is_raised (task_of t i) k)
        (eqb (place_of k) q)
        (ap (λ x. eqb (place_of x) q) (task-put_same i k t l s.shaped.tasks)))

    rests : i < task_count → (q : ℕ) → q < queue_count → place_of (task_of t i) ≡ place_of k → (task_of t i).work ≡ k.work
        → QueueRight (works (put i k t)) (stands_in (put i k t) q) (queue_of (put i k t) q)
    rests l q m p w =
        rw (ap (λ (u : Table). queue_of u q) (put-stays i k t l p w))
        (same_right
        (works-put i k t l ∙ ap (set (works t) i) (sym w ∙ sym (work_at t i)) ∙ set-get_or (works t) i 0)
        (λ j. ap (λ x. eqb x q) (part-put place_of i k t (sym p) j))
        (queue_right s q m))

    word : i < task_count → SoundReady (put i k t)
    word l = go (eqb (place_of (task_of t i)) (place_of k)) refl (eqb (task_of t i).work k.work) refl
      where
        go : (a : Bool) → eqb (place_of (task_of t i)) (place_of k) ≡ a → (b : Bool) → eqb (task_of t i).work k.work ≡ b → SoundReady (put i k t)
        go true p true w = resting_ready s i l k (eqb-true _ _ p) (eqb-true _ _ w)
        go true p false w = shifted-ready s i l k (put-moves i k t l (rw (p, w)))
        go false p b w = shifted-ready s i l k (put-moves i k t l (rw p))

    right : i < task_count → (q : ℕ) → q < queue_count → QueueRight (works (put i k t)) (stands_in (put i k t) q) (queue_of (put i k t) q)
    right l q m = go (eqb (place_of (task_of t i)) (place_of k)) refl (eqb (task_of t i).work k.work) refl
      where
        go : (a : Bool) → eqb (place_of (task_of t i)) (place_of k) ≡ a → (b : Bool) → eqb (task_of t i).work k.work ≡ b
            → QueueRight (works (put i k t)) (stands_in (put i k t) q) (queue_of (put i k t) q)
        go true p true w = rests l q m (eqb-true _ _ p) (eqb-true _ _ w)
        go true p false w = moves l q m (rw (p, w))
        go false p b w = moves l q m (rw p)

pub walk-queued : {t : Table} (s : ℕ) → SoundQueues t → SoundQueues (walk s t)
walk-queued s h = walk_inv SoundQueues (λ t i l r. put-queued i _ r) s h

-- ---- rotate

-- The able task i goes behind its equals.
pub rotate-queued : {t : Table} (i : ℕ) → SoundQueues t → i < task_count → is_able (task_of t i) ≡ true → SoundQueues (rotate i t)
rotate-queued {t} i s l able = right_queued (rotate-shaped i s.shaped) (λ q m. right q m (ℕ_discrete able_queue q)) word
  where
    same : (q j : ℕ) → stands_in (rotate i t) q j ≡ stands_in t q j
    same q j = ap (λ x. eqb x q) (part-rotate place_of (λ n k. place_same k (with_left n k) refl refl refl refl) i t j)

    word : SoundReady (rotate i t)
    word =
        same_ready
        (part-rotate is_able able_left i t)
        (part-rotate (λ k. k.work) (λ n k. refl) i t)
        (ap (λ (u : Table). u.ready) (rotate_in i t l))
        s.ready

    there : QueueRight (works (rotate i t)) (stands_in (rotate i t) able_queue) (queue_of (rotate i t) able_queue)
    there =
        rw (ap (λ (u : Table). queue_of u able_queue) (rotate_in i t l), get_or-set_same t.queues able_queue _ [] (omega (arith, s.shaped.queues)))
        (same_right
        (works-rotate i t)
        (same able_queue)
        (in_right (works t) (stands_in t able_queue) i l (λ x z d. refl) (λ j d. refl) (queue_right s able_queue (omega arith)) false (sym (able-place (task_of t i)) ∙ able)))

    right : (q : ℕ) → q < queue_count → Dec (able_queue ≡ q) → QueueRight (works (rotate i t)) (stands_in (rotate i t) q) (queue_of (rotate i t) q)
    right q m (yes e) = rw (← e) there
    right q m (no d) =
        rw (ap (λ (u : Table). queue_of u q) (rotate_in i t l), get_or-set_other t.queues able_queue q _ [] (λ e. d (sym e)))
        (same_right (works-rotate i t) (same q) (queue_right s q m))

-- ---- all that leaves tasks and queues as they are

pub same_queued : {t u : Table} → SoundQueues t → u.tasks ≡ t.tasks → u.queues ≡ t.queues → u.ready ≡ t.ready → Shaped u → SoundQueues u
unfolding works
same_queued {t} {u} s tasks queues word shaped =
    record {
      shaped = shaped;
      places = rw (tasks, queues) s.places;
      nothing_else = rw queues s.nothing_else;
      ordered = rw (tasks, queues) s.ordered;
      ready = same_ready (λ j. rw tasks) (λ j. rw tasks) word s.ready;
    }

pub mutex-queued : {t : Table} (m : ℕ) (x : Mutex) → SoundQueues t → SoundQueues (with_mutex m x t)
mutex-queued {t} m x h = same_queued h refl refl refl (mutex-shaped h.shaped m x)
