-- The word of ready levels where a task leaves a queue or joins it, and what it goes by.
use Rattle.std.specs.Prelude.{◌≡◌, refl, Bool, true, false, cond, not, ◌&&◌, ◌||◌, List, ℕ, ◌+◌, ◌-◌, ◌<◌, eqb, ltb, get_or}
use Rattle.std.proofs.Common.{sym, ap, ◌∙◌, eq-eqb, ne_eqb, lt-ltb}
use Rattle.std.proofs.Math.Seq.{map-set_same}
use Rattle.queue.specs.Slots.{place_of, entered, without}
use Rattle.queue.specs.Order.{level}
use Rattle.rules.specs.declared.Task.{Task}
use Rattle.rules.specs.Table.{Table, queue_count, able_queue, task_of, queue_of, works, no_task, with_task, with_queue, with_ready, with_work}
use Rattle.rules.specs.Ready.{without_level, beside, ready_without, ready_with}
use Rattle.rules.specs.Move.{leave, join}
use Rattle.laws.specs.queues.Put.{work_at}

-- The word after task i has left queue q, and after it has joined it.
unfoldable pub word_left : (q i : ℕ) → Table → ℕ
word_left q i t = cond (eqb q able_queue) (ready_without i t) t.ready

unfoldable pub word_joined : (q i : ℕ) → Table → ℕ
word_joined q i t = cond (eqb q able_queue) (ready_with i t) t.ready

-- A task of queue q whose working priority becomes p: it leaves with the old one, and joins with the new.
unfoldable pub reworked_in : Bool → (q i p : ℕ) → Table → Table
reworked_in ahead q i p t = let u = leave q i t in join ahead q i (with_task i (with_work p (task_of u i)) u)

module _ (q i : ℕ) (t : Table) where
  pub left_able : q ≡ able_queue → word_left q i t ≡ ready_without i t
  unfolding word_left
  left_able e = rw (eq-eqb q able_queue e)

  pub left_other : (q ≡ able_queue → ⊥) → word_left q i t ≡ t.ready
  unfolding word_left
  left_other d = rw (ne_eqb q able_queue d)

  pub joined-able : q ≡ able_queue → word_joined q i t ≡ ready_with i t
  unfolding word_joined
  joined-able e = rw (eq-eqb q able_queue e)

  pub joined_other : (q ≡ able_queue → ⊥) → word_joined q i t ≡ t.ready
  unfolding word_joined
  joined_other d = rw (ne_eqb q able_queue d)

  pub leave_is : q < queue_count → leave q i t ≡ with_ready (word_left q i t) (with_queue q (without i (queue_of t q)) t)
  unfolding leave word_left
  leave_is h = rw (lt-ltb q queue_count h)

  pub join_is : (ahead : Bool) → q < queue_count → join ahead q i t ≡ with_ready (word_joined q i t) (with_queue q (entered ahead (works t) i (queue_of t q)) t)
  unfolding join word_joined
  join_is ahead h = rw (lt-ltb q queue_count h)

-- ---- what a task's leaving goes by: the working priorities, the queue and the word

abbrev beside_by : ℕ → (keys slots : List ℕ) → Bool
beside_by i keys slots =
    let at = place_of i slots in
    let l = get_or keys i 0 in
    level keys l (get_or slots (at + 1) 0) || (not (eqb at 0) && level keys l (get_or slots (at - 1) 0))

abbrev without_by : ℕ → (keys slots : List ℕ) → ℕ → ℕ
without_by i keys slots word = cond (beside_by i keys slots) word (without_level (get_or keys i 0) word)

without_by_lem : (i : ℕ) (t : Table) → ready_without i t ≡ without_by i (works t) (queue_of t able_queue) t.ready
unfolding ready_without beside
without_by_lem i t = rw (← work_at t i)

-- A record with the working priority as before does not bear on it.
pub works-stored : (i : ℕ) (k : Task) (t : Table) → k.work ≡ (task_of t i).work → works (with_task i k t) ≡ works t
unfolding works
works-stored i k t e = map-set_same (λ (k : Task). k.work) t.tasks i k no_task e

pub leave-stored : (q i : ℕ) (k : Task) (t : Table) → k.work ≡ (task_of t i).work → leave q i (with_task i k t) ≡ with_task i k (leave q i t)
unfolding leave
leave-stored q i k t e = go (ltb q queue_count)
  where
    same : ready_without i (with_task i k t) ≡ ready_without i t
    same = without_by_lem i (with_task i k t) ∙ ap (λ (keys : List ℕ). without_by i keys (queue_of t able_queue) t.ready) (works-stored i k t e) ∙ sym (without_by_lem i t)

    out : Table → Table
    out u = with_ready (cond (eqb q able_queue) (ready_without i u) u.ready) (with_queue q (without i (queue_of u q)) u)

    go : (b : Bool) → cond b (out (with_task i k t)) (with_task i k t) ≡ with_task i k (cond b (out t) t)
    go true = ap (λ (w : ℕ). with_ready (cond (eqb q able_queue) w t.ready) (with_queue q (without i (queue_of t q)) (with_task i k t))) same
    go false = refl
