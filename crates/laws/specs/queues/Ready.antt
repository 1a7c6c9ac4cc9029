-- The word of ready levels is kept: a task that leaves the able queue takes its level's bit along unless an equal stays, one that joins it sets it.
use Rattle.std.specs.Prelude.{◌≡◌, ◌⊎◌, ◌≢◌, ◌↔◌, Bool, true, cond, not, ◌&&◌, ◌||◌, ℕ, ◌+◌, ◌-◌, ◌≤◌, ◌<◌, eqb, ltb}
use Rattle.std.proofs.Math.Path.{refl}
use Rattle.std.proofs.Common.{sym, ap, ◌∙◌, inl, inr, ⊎_elim, le_antisymm, arith}
use Rattle.std.proofs.Math.Bool.{false}
use Rattle.std.proofs.lemmas.Bool.{false≢true}
use Rattle.std.proofs.Math.Decide.{ℕ_discrete}
use Rattle.std.proofs.Math.ListN.{length}
use Rattle.std.proofs.Math.Seq.{get_or-set_same}
use borrow.Author.Tests.{eq-eqb, ne_eqb}
use Rattle.queue.specs.Slots as slots
use Rattle.queue.specs.Slots.{key_of}
use Rattle.queue.specs.Order.{count, level}
use Rattle.queue.specs.Keeps.{key_own}
use Rattle.rules.specs.Sizes.{task_count, level_count, words_round}
use Rattle.rules.specs.Table.{Table, task_of, queue_of, queue_count, able_queue, slot_in, first_in, works, is_able, written, no_task, with_task}
use Rattle.rules.specs.Decides.{Decides, equals, itself, fails, either, both}
use Rattle.rules.specs.Family.{place_of}
use Rattle.rules.specs.Ready.{is_set, with_level, first_level, beside, ready_without, ready_with}
use Rattle.rules.proofs.Levels.{set-with, set-without, set_none, with_word, without_word, words_same, first_set, first_least}
use Rattle.rules.specs.Move.{leave, join, put}
use Rattle.rules.specs.Sound.{Each, once, Empty, HasAble, SoundReady, SoundQueues}
use Rattle.rules.specs.declared.Task.{Task}
use Rattle.laws.specs.queues.Put.{whichever, pick, shifted, leave_inv, put-stays, task-put, task-put_same, part-put, work_at}
use Rattle.laws.specs.queues.Stands.{able-place, able-stands, able_there, slot-range, slot_there, first_range, first_there, empty_none, none_empty}
use Rattle.laws.specs.queues.Stands as stands
use Rattle.laws.specs.queues.Neighbours.{another, equal_beside, place_at}

-- ---- who has a level

-- Level m has an able task other than i.
pub record HasOther (i m : ℕ) (t : Table) : Type 0 where
  pub has : HasAble m t
  pub apart : has.task ≢ i

-- A table where each task is as able and as urgent as before, with the same word.
module _ {t u : Table} (ables : (j : ℕ) → is_able (task_of u j) ≡ is_able (task_of t j)) (levels : (j : ℕ) → (task_of u j).work ≡ (task_of t j).work) where
  same_able : (m : ℕ) → HasAble m t → HasAble m u
  same_able m h = record { task = h.task; range = h.range; able = ables h.task ∙ h.able; level = levels h.task ∙ h.level }

  had_able : (m : ℕ) → HasAble m u → HasAble m t
  had_able m h = record { task = h.task; range = h.range; able = sym (ables h.task) ∙ h.able; level = sym (levels h.task) ∙ h.level }

  pub same_ready : u.ready ≡ t.ready → SoundReady t → SoundReady u
  same_ready e r =
      record {
        word = omega (arith, e, r.word);
        levels = λ m l. ((λ x. same_able m ((r.levels m l).0 (sym (ap (is_set m) e) ∙ x))), λ x. ap (is_set m) e ∙ (r.levels m l).1 (had_able m x));
      }

-- ---- a task that leaves the able queue

-- A word with the levels of the able tasks other than i.
record Others (i : ℕ) (t : Table) (w : ℕ) : Type 0 where
  word : w < words_round
  levels : Each level_count (λ m. (is_set m w ≡ true) ↔ HasOther i m t)

module _ {t : Table} (s : SoundQueues t) (i : ℕ) (l : i < task_count) where
  -- Task j stands in the able queue, once.
  stands-able : (j : ℕ) → j < task_count → is_able (task_of t j) ≡ true → count (written j) (queue_of t able_queue) ≡ 1
  stands-able j m a = s.places able_queue (omega arith) j m ∙ ap once (eq-eqb _ _ (able-stands (task_of t j) a))

  key_work : (j : ℕ) → key_of (works t) (written j) ≡ (task_of t j).work
  key_work j = key_own (works t) j ∙ work_at t j

  module _ (a : is_able (task_of t i) ≡ true) where
    abbrev at : ℕ
    at = slots.place_of i (queue_of t able_queue)

    there : slot_in able_queue at t ≡ written i
    there = place_at (written i) (queue_of t able_queue) (omega (arith, stands-able i l a))

    -- A neighbour of its level is another task.
    neighbour : (k : ℕ) → k ≢ at → level (works t) (task_of t i).work (slot_in able_queue k t) ≡ true → HasOther i (task_of t i).work t
    neighbour k d e =
        let (n, q) = (both (fails (equals {x = slot_in able_queue k t} {y = 0})) (equals {x = key_of (works t) (slot_in able_queue k t)} {y = (task_of t i).work})).holds e in
        let j : ℕ = slot_in able_queue k t - 1 in
        let w : written j ≡ slot_in able_queue k t = omega (arith, n) in
        record {
          has =
              record {
                task = j;
                range = omega (arith, n, slot-range s able_queue (omega arith) k);
                able = able_there (task_of t j) (slot_there s able_queue (omega arith) k n);
                level = sym (work_at t j) ∙ q;
              };
          apart = λ x. another (s.ordered able_queue (omega arith)) (written i) at there (λ z. omega arith) (omega (arith, stands-able i l a)) k d (sym w ∙ ap written x);
        }

    -- Slot k holds a task of its level; a neighbour does.
    abbrev EqualAt : ℕ → Type 0
    EqualAt k = level (works t) (task_of t i).work (slot_in able_queue k t) ≡ true

    abbrev Neighbour : Type 0
    Neighbour = EqualAt (at + 1) ⊎ ((at ≢ 0) × EqualAt (at - 1))

    which : Decides (beside i t) Neighbour
    unfolding beside
    which = either itself (both (fails equals) itself)

    found : HasOther i (task_of t i).work t → Neighbour
    found h =
        rw (key_work i) at
        (equal_beside
        (s.ordered able_queue (omega arith))
        (written i)
        at
        there
        (λ z. omega arith)
        (omega (arith, stands-able i l a))
        (written h.has.task)
        (λ x. h.apart (omega arith))
        (λ z. omega arith)
        (omega (arith, stands-able h.has.task h.has.range h.has.able))
        (key_work h.has.task ∙ h.has.level ∙ sym (key_work i)))

    -- A neighbour has its level exactly if another able task does.
    pub beside_other : Decides (beside i t) (HasOther i (task_of t i).work t)
    beside_other =
        record {
          holds = λ e. ⊎_elim (neighbour (at + 1) (λ x. omega arith)) (λ p. neighbour (at - 1) (λ x. p.0 (omega arith)) p.1) (which.holds e);
          passes = λ h. which.passes (found h);
        }

    without-ready : Others i t (ready_without i t)
    unfolding ready_without
    without-ready =
        pick (Others i t) beside_other
        (λ h. record { word = s.ready.word; levels = λ m k. ((λ e. one m ((s.ready.levels m k).0 e) h (ℕ_discrete ((s.ready.levels m k).0 e).task i)), λ o. (s.ready.levels m k).1 o.has) })
        (λ none.
        record {
          word = without_word (task_of t i).work t.ready s.ready.word;
          levels = λ m k. ((λ e. other none m k ((left m k).holds (sym (set-without m (task_of t i).work t.ready k) ∙ e))), λ o. set-without m (task_of t i).work t.ready k ∙ (left m k).passes ((λ x. none (rw x at o)), (s.ready.levels m k).1 o.has));
        })
      where
        left : (m : ℕ) → m < level_count → Decides (not (eqb m (task_of t i).work) && is_set m t.ready) ((m ≢ (task_of t i).work) × (is_set m t.ready ≡ true))
        left m k = both (fails equals) itself

        one : (m : ℕ) (x : HasAble m t) → HasOther i (task_of t i).work t → Dec (x.task ≡ i) → HasOther i m t
        one m x h (no d) = record { has = x; apart = d }
        one m x h (yes e) = rw (sym x.level ∙ ap (λ (j : ℕ). (task_of t j).work) e) h

        other : (HasOther i (task_of t i).work t → ⊥) → (m : ℕ) → m < level_count → (m ≢ (task_of t i).work) × (is_set m t.ready ≡ true) → HasOther i m t
        other none m k p =
            let x : HasAble m t = (s.ready.levels m k).0 p.1 in
            record { has = x; apart = λ e. p.0 (sym x.level ∙ ap (λ (j : ℕ). (task_of t j).work) e) }

  -- Whatever queue it leaves.
  leave-ready : Others i t (leave (place_of (task_of t i)) i t).ready
  unfolding leave
  leave-ready = go (ℕ_discrete (place_of (task_of t i)) able_queue)
    where
      kept : place_of (task_of t i) ≢ able_queue → (leave (place_of (task_of t i)) i t).ready ≡ t.ready
      kept d = whichever {A = Table} (λ u. u.ready ≡ t.ready) (ltb (place_of (task_of t i)) queue_count) (rw (ne_eqb _ _ d)) refl

      go : Dec (place_of (task_of t i) ≡ able_queue) → Others i t (leave (place_of (task_of t i)) i t).ready
      go (yes e) = rw e (without-ready (able_there (task_of t i) e))
      go (no d) =
          rw (kept d)
          (record {
            word = s.ready.word;
            levels = λ m k. (
              (λ e.
                  let x : HasAble m t = (s.ready.levels m k).0 e in
                  record { has = x; apart = λ own. d (able-stands (task_of t i) (ap (λ (j : ℕ). is_able (task_of t j)) (sym own) ∙ x.able)) }),
              λ o. (s.ready.levels m k).1 o.has,
            );
          })

  -- ---- and becomes k

  module _ (k : Task) where
    -- Who has a level then: task i itself, or another.
    has-after : (m : ℕ) → HasAble m (put i k t) → ((is_able k ≡ true) × (k.work ≡ m)) ⊎ HasOther i m t
    has-after m h = go (ℕ_discrete h.task i)
      where
        go : Dec (h.task ≡ i) → ((is_able k ≡ true) × (k.work ≡ m)) ⊎ HasOther i m t
        go (yes e) =
            let same : task_of (put i k t) h.task ≡ k = ap (task_of (put i k t)) e ∙ task-put_same i k t l s.shaped.tasks in
            inl (ap is_able (sym same) ∙ h.able, ap (λ (x : Task). x.work) (sym same) ∙ h.level)
        go (no d) =
            let same : task_of (put i k t) h.task ≡ task_of t h.task = task-put i k t h.task d in
            inr (record { has = record { task = h.task; range = h.range; able = ap is_able (sym same) ∙ h.able; level = ap (λ (x : Task). x.work) (sym same) ∙ h.level }; apart = d })

    itself-after : (m : ℕ) → is_able k ≡ true → k.work ≡ m → HasAble m (put i k t)
    itself-after m a e =
        let same : task_of (put i k t) i ≡ k = task-put_same i k t l s.shaped.tasks in
        record { task = i; range = l; able = ap is_able same ∙ a; level = ap (λ (x : Task). x.work) same ∙ e }

    other_after : (m : ℕ) → HasOther i m t → HasAble m (put i k t)
    other_after m o =
        let same : task_of (put i k t) o.has.task ≡ task_of t o.has.task = task-put i k t o.has.task o.apart in
        record { task = o.has.task; range = o.has.range; able = ap is_able same ∙ o.has.able; level = ap (λ (x : Task). x.work) same ∙ o.has.level }

    -- The word of a task that moves.
    abbrev left : Table
    left = leave (place_of (task_of t i)) i t

    joined : Dec (place_of k ≡ able_queue) → (shifted i k t).ready ≡ cond (is_able k) (with_level k.work left.ready) left.ready
    unfolding join ready_with
    joined (yes e) =
        let size : i < length left.tasks = rw (leave_inv (λ u. u.tasks ≡ t.tasks) (λ p r w u e h. h) (place_of (task_of t i)) i t refl, s.shaped.tasks) l in
        let mine : task_of (with_task i k left) i ≡ k = get_or-set_same left.tasks i k no_task size in
        rw (e, able_there k e, mine)
    joined (no d) =
        let not_able : is_able k ≡ false = able-place k ∙ ne_eqb _ _ d in
        rw not_able (whichever {A = Table} (λ u. u.ready ≡ left.ready) (ltb (place_of k) queue_count) (rw (ne_eqb _ _ d)) refl)

    pub shifted-ready : put i k t ≡ shifted i k t → SoundReady (put i k t)
    shifted-ready e = go (is_able k) refl
      where
        w : (put i k t).ready ≡ cond (is_able k) (with_level k.work left.ready) left.ready
        w = ap (λ (u : Table). u.ready) e ∙ joined (ℕ_discrete (place_of k) able_queue)

        o : Others i t left.ready
        o = leave-ready

        set : (m : ℕ) → Decides (eqb m k.work || is_set m left.ready) ((m ≡ k.work) ⊎ (is_set m left.ready ≡ true))
        set m = either equals itself

        go : (b : Bool) → is_able k ≡ b → SoundReady (put i k t)
        go true a =
            let f : (put i k t).ready ≡ with_level k.work left.ready = w ∙ ap (λ (b : Bool). cond b (with_level k.work left.ready) left.ready) a in
            record {
              word = omega (arith, f, with_word k.work left.ready o.word);
              levels = λ m h.
                  let g : is_set m (put i k t).ready ≡ (eqb m k.work || is_set m left.ready) = ap (is_set m) f ∙ set-with m k.work left.ready h in (
                    (λ x. ⊎_elim (λ y. itself-after m a (sym y)) (λ y. other_after m ((o.levels m h).0 y)) ((set m).holds (sym g ∙ x))),
                    λ x. g ∙ (set m).passes (⊎_elim (λ y. inl (sym y.1)) (λ y. inr ((o.levels m h).1 y)) (has-after m x)),
                  );
            }
        go false a =
            let f : (put i k t).ready ≡ left.ready = w ∙ ap (λ (b : Bool). cond b (with_level k.work left.ready) left.ready) a in
            record {
              word = omega (arith, f, o.word);
              levels = λ m h. (
                (λ x. other_after m ((o.levels m h).0 (sym (ap (is_set m) f) ∙ x))),
                λ x. ap (is_set m) f ∙ ⊎_elim (λ y. absurd (false≢true (sym a ∙ y.0))) (λ y. (o.levels m h).1 y) (has-after m x),
              );
            }

    -- One that stays where it stands, at its level.
    pub resting_ready : place_of (task_of t i) ≡ place_of k → (task_of t i).work ≡ k.work → SoundReady (put i k t)
    resting_ready p w =
        same_ready
        (part-put is_able i k t (able-place k ∙ ap (λ (x : ℕ). eqb x able_queue) (sym p) ∙ sym (able-place (task_of t i))))
        (part-put (λ x. x.work) i k t (sym w))
        (ap (λ (u : Table). u.ready) (put-stays i k t l p w))
        s.ready

-- ---- the first level

module _ {t : Table} (s : SoundQueues t) (low : Each task_count (λ j. (task_of t j).work < level_count)) where
  -- An able task's level is set.
  able-set : (j : ℕ) → j < task_count → is_able (task_of t j) ≡ true → is_set (task_of t j).work t.ready ≡ true
  able-set j m a = (s.ready.levels (task_of t j).work (low j m)).1 (record { task = j; range = m; able = a; level = refl })

  -- "none if none is able": the word is 0 exactly then.
  pub none_ready : (t.ready ≡ 0) ↔ Empty able_queue t
  none_ready = (
    (λ z.
        none_empty s able_queue (omega arith)
        (λ j m p. false≢true (sym (ap (is_set (task_of t j).work) z ∙ set_none (task_of t j).work) ∙ able-set j m (able_there (task_of t j) p)))),
    λ e. words_same t.ready 0 s.ready.word (omega arith) (λ m h. clear e m h (is_set m t.ready) refl),
  )
    where
      clear : Empty able_queue t → (m : ℕ) → m < level_count → (b : Bool) → is_set m t.ready ≡ b → is_set m t.ready ≡ is_set m 0
      clear e m h true q =
          let x : HasAble m t = (s.ready.levels m h).0 q in
          absurd (empty_none s able_queue (omega arith) e x.task x.range (able-stands (task_of t x.task) x.able))
      clear e m h false q = q ∙ sym (set_none m)

  -- "The first level is found by counting the word's leading zeros": it is the level of the first of the able queue.
  pub first_level_lem : first_in able_queue t ≢ 0 → first_level t.ready ≡ (task_of t (first_in able_queue t - 1)).work
  first_level_lem n = le_antisymm upper (omega (arith, least, x.level))
    where
      j : ℕ
      j = first_in able_queue t - 1

      range : j < task_count
      range = omega (arith, first_range s able_queue (omega arith))

      upper : first_level t.ready ≤ (task_of t j).work
      upper = first_least t.ready (task_of t j).work s.ready.word (low j range) (able-set j range (able_there (task_of t j) (first_there s able_queue (omega arith) n)))

      level-range : first_level t.ready < level_count
      level-range = omega (arith, upper, low j range)

      x : HasAble (first_level t.ready) t
      x = (s.ready.levels (first_level t.ready) level-range).0 (first_set t.ready s.ready.word level-range)

      least : (task_of t j).work ≤ (task_of t x.task).work
      least = stands.first_least s able_queue (omega arith) x.task x.range (able-stands (task_of t x.task) x.able)

  -- So whom the word lets be chosen is the first of the able queue.
  pub first_chosen : cond (eqb (first_level t.ready) level_count) 0 (first_in able_queue t) ≡ first_in able_queue t
  first_chosen = go (ℕ_discrete (first_in able_queue t) 0)
    where
      go : Dec (first_in able_queue t ≡ 0) → cond (eqb (first_level t.ready) level_count) 0 (first_in able_queue t) ≡ first_in able_queue t
      go (yes z) = whichever (λ n. n ≡ first_in able_queue t) (eqb (first_level t.ready) level_count) (sym z) refl
      go (no n) = rw (ne_eqb (first_level t.ready) level_count (λ e. omega (arith, e, first_level_lem n, low (first_in able_queue t - 1) (omega (arith, first_range s able_queue (omega arith))))))
