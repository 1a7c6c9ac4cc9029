-- The word of ready levels is tested along the able queue, once the queues are known to be right.
use Rattle.std.specs.Prelude.{◌≡◌, refl, ◌⊎◌, ◌≢◌, Bool, ◌&&◌, ℕ, zero, suc, ◌+◌, ◌-◌, ◌≤◌, ◌<◌, eqb, length, get_or, drop}
use Rattle.std.proofs.Math.Path.{sym}
use Rattle.std.proofs.Common.{ap, ◌∙◌, arith, drop_of_length-le, drop-cons, add-one}
use Rattle.std.proofs.Math.Logic.{inl, inr, ⊎_elim}
use Rattle.std.proofs.Math.Bool.{true, false, cond}
use Rattle.std.proofs.lemmas.Bool.{false≢true}
use mathlib.Core.List.{List, [], ◌∷◌}
use Rattle.std.proofs.Math.Decide.{ℕ_discrete}
use borrow.Author.Tests.{eq-eqb, ne_eqb}
use Rattle.queue.specs.Slots.{key_of, place_of}
use Rattle.queue.specs.Order.{Ordered, empty, front}
use Rattle.queue.specs.Keeps.{key_own}
use Rattle.rules.specs.Sizes.{task_count, level_count, words_round}
use Rattle.rules.specs.Table.{Table, task_of, queue_of, able_queue, slot_in, works, is_able, written, with_ready}
use Rattle.rules.specs.Ready.{is_set, with_level, levels_below}
use Rattle.rules.proofs.Levels.{set-with, set_none, with_word, words_same, ready}
use Rattle.rules.specs.Sound.{once, HasAble, SoundReady, is_sound_ready, Shaped, SoundQueues, is_sound_queues}
use Rattle.rules.proofs.Tested.{queued}
use Rattle.rules.specs.Decides.{Decides, same_test, equals, itself, either, first, last}
use Rattle.laws.specs.queues.Put.{work_at}
use Rattle.laws.specs.queues.Stands.{able-stands, able_there, slot-range, slot_there}
use Rattle.laws.specs.queues.Neighbours.{all_at, place_at}

-- ---- the queues apart from the word

-- The table with the word that its tasks make.
abbrev pub worded : Table → Table
worded t = with_ready (levels_below task_count t) t

levels-tasks : (n w : ℕ) (t : Table) → levels_below n (with_ready w t) ≡ levels_below n t
unfolding levels_below
levels-tasks zero w t = refl
levels-tasks (suc n) w t = ap (λ (x : ℕ). cond (is_able (task_of t n)) (with_level (task_of t n).work x) x) (levels-tasks n w t)

pub worded-ready : (t : Table) → SoundReady (worded t)
unfolding is_sound_ready
worded-ready t = (ready (worded t)).holds (eq-eqb _ _ (sym (levels-tasks task_count (levels_below task_count t) t)))

pub worded-shaped : {t : Table} → Shaped t → Shaped (worded t)
worded-shaped s =
    record { tasks = s.tasks; semaphores = s.semaphores; mutexes = s.mutexes; groups = s.groups; channels = s.channels; queues = s.queues; slots = s.slots; messages = s.messages; rows = s.rows }

unworded_shaped : {t : Table} → Shaped (worded t) → Shaped t
unworded_shaped s =
    record { tasks = s.tasks; semaphores = s.semaphores; mutexes = s.mutexes; groups = s.groups; channels = s.channels; queues = s.queues; slots = s.slots; messages = s.messages; rows = s.rows }

-- The rules of the queues are those of the slots, and that of the word.
pub word_apart : (t : Table) → is_sound_queues (worded t) && is_sound_ready t ≡ is_sound_queues t
unfolding works
word_apart t = same_test apart (queued t)
  where
    apart : Decides (is_sound_queues (worded t) && is_sound_ready t) (SoundQueues t)
    apart =
        first (λ s. record { shaped = worded-shaped s.shaped; places = s.places; nothing_else = s.nothing_else; ordered = s.ordered; ready = worded-ready t }) (queued (worded t)) λ s.
        last (λ r. r.ready) (ready t) λ w.
        record { shaped = unworded_shaped s.shaped; places = s.places; nothing_else = s.nothing_else; ordered = s.ordered; ready = w }

-- ---- along a queue

-- The levels of w, and of the tasks from the front of a queue on, up to the first free slot.
unfoldable pub levels_from : List ℕ → ℕ → List ℕ → ℕ
levels_from keys w [] = w
levels_from keys w (v ∷ vs) = let more = levels_from keys (with_level (key_of keys v) w) vs in cond (eqb v 0) w more

-- Slot by slot.
module _ (keys : List ℕ) (w : ℕ) (l : List ℕ) (j : ℕ) where
  cut : j < length l → drop j l ≡ get_or l j 0 ∷ drop (j + 1) l
  cut h = rw add-one (drop-cons l j 0 h)

  pub from_free : j < length l → get_or l j 0 ≡ 0 → levels_from keys w (drop j l) ≡ w
  unfolding levels_from
  from_free h z = rw (cut h, eq-eqb (get_or l j 0) 0 z)

  pub from_next : j < length l → get_or l j 0 ≢ 0 → levels_from keys w (drop j l) ≡ levels_from keys (with_level (key_of keys (get_or l j 0)) w) (drop (j + 1) l)
  unfolding levels_from
  from_next h n = rw (cut h, ne_eqb (get_or l j 0) 0 n)

  pub from_end : length l ≤ j → levels_from keys w (drop j l) ≡ w
  unfolding levels_from
  from_end h = rw (drop_of_length-le l h)

module _ (keys : List ℕ) where
  -- A slot with a task of level m.
  abbrev HasSlot : ℕ → List ℕ → Type 0
  HasSlot m l = (k : ℕ) × (get_or l k 0 ≢ 0) × (key_of keys (get_or l k 0) ≡ m)

  from_word : (w : ℕ) (l : List ℕ) → w < words_round → levels_from keys w l < words_round
  unfolding levels_from
  from_word w [] h = h
  from_word w (v ∷ vs) h = go (eqb v 0) (from_word (with_level (key_of keys v) w) vs (with_word (key_of keys v) w h))
    where
      go : (b : Bool) → levels_from keys (with_level (key_of keys v) w) vs < words_round → cond b w (levels_from keys (with_level (key_of keys v) w) vs) < words_round
      go true r = h
      go false r = r

  module _ (m : ℕ) (h : m < level_count) where
    -- What is set is of w, or of a slot,
    from_sound : (w : ℕ) (l : List ℕ) → is_set m (levels_from keys w l) ≡ true → (is_set m w ≡ true) ⊎ HasSlot m l
    unfolding levels_from
    from_sound w [] e = inl e
    from_sound w (v ∷ vs) e = go (ℕ_discrete v 0) (from_sound (with_level (key_of keys v) w) vs)
      where
        go : Dec (v ≡ 0) → (is_set m (levels_from keys (with_level (key_of keys v) w) vs) ≡ true → (is_set m (with_level (key_of keys v) w) ≡ true) ⊎ HasSlot m vs) → (is_set m w ≡ true) ⊎ HasSlot m (v ∷ vs)
        go (yes z) rest = inl (rw (eq-eqb v 0 z) at e)
        go (no d) rest =
            ⊎_elim
            (λ s. ⊎_elim (λ q. inr (0, d, sym q)) (λ q. inl q) ((either equals itself).holds (sym (set-with m (key_of keys v) w h) ∙ s)))
            (λ (k, n, q). inr (suc k, n, q))
            (rest (rw (ne_eqb v 0 d) at e))

    -- and that is set, where the queue is in order.
    from_complete : (w : ℕ) {l : List ℕ} → Ordered keys l → (is_set m w ≡ true) ⊎ HasSlot m l → is_set m (levels_from keys w l) ≡ true
    unfolding levels_from
    from_complete w empty (inl e) = e
    from_complete w empty (inr (k, n, q)) = absurd (n refl)
    from_complete w (front {x = v} {xs = vs} a o) x = go (ℕ_discrete v 0) (from_complete (with_level (key_of keys v) w) o) x
      where
        set : (is_set m w ≡ true) ⊎ (m ≡ key_of keys v) → is_set m (with_level (key_of keys v) w) ≡ true
        set y = set-with m (key_of keys v) w h ∙ (either equals itself).passes (⊎_elim (λ e. inr e) (λ e. inl e) y)

        next : (is_set m w ≡ true) ⊎ HasSlot m (v ∷ vs) → (is_set m (with_level (key_of keys v) w) ≡ true) ⊎ HasSlot m vs
        next (inl e) = inl (set (inl e))
        next (inr (zero, n, q)) = inl (set (inr (sym q)))
        next (inr (suc k, n, q)) = inr (k, n, q)

        -- Behind a free slot none is filled.
        none : v ≡ 0 → (is_set m w ≡ true) ⊎ HasSlot m (v ∷ vs) → is_set m w ≡ true
        none z (inl e) = e
        none z (inr (zero, n, q)) = absurd (n z)
        none z (inr (suc k, n, q)) = ⊎_elim (λ e. absurd (n e)) (λ p. absurd (p.0 z)) (all_at (inl refl) a k)

        go : Dec (v ≡ 0) → ((is_set m (with_level (key_of keys v) w) ≡ true) ⊎ HasSlot m vs → is_set m (levels_from keys (with_level (key_of keys v) w) vs) ≡ true)
            → (is_set m w ≡ true) ⊎ HasSlot m (v ∷ vs)
            → is_set m (cond (eqb v 0) w (levels_from keys (with_level (key_of keys v) w) vs)) ≡ true
        go (yes z) rest x = rw (eq-eqb v 0 z) (none z x)
        go (no d) rest x = rw (ne_eqb v 0 d) (rest (next x))

-- ---- along the able queue

module _ (t : Table) (s : SoundQueues (worded t)) where
  abbrev able : List ℕ
  able = queue_of t able_queue

  -- A level has an able task exactly where a slot of the able queue has one.
  slot-able : (m : ℕ) → HasSlot (works t) m able → HasAble m (worded t)
  slot-able m (k, n, q) =
      record {
        task = slot_in able_queue k t - 1;
        range = omega (arith, n, slot-range s able_queue (omega arith) k);
        able = able_there (task_of t (slot_in able_queue k t - 1)) (slot_there s able_queue (omega arith) k n);
        level = sym (work_at t (slot_in able_queue k t - 1)) ∙ q;
      }

  able-slot : (m : ℕ) → HasAble m (worded t) → HasSlot (works t) m able
  able-slot m x =
      let j = x.task in
      let p = place_at (written j) able (omega (arith, s.places able_queue (omega arith) j x.range ∙ ap once (eq-eqb _ _ (able-stands (task_of t j) x.able)))) in
      (place_of j able, (λ z. omega (arith, p, z)), ap (key_of (works t)) p ∙ key_own (works t) j ∙ work_at t j ∙ x.level)

  -- So the levels along it are those of the able tasks.
  pub along-levels : levels_from (works t) 0 able ≡ levels_below task_count t
  unfolding works
  along-levels =
      words_same (levels_from (works t) 0 able) (levels_below task_count t) (from_word (works t) 0 able (omega arith)) (worded-ready t).word
      (λ m h. same_test (along m h) (record { holds = ((worded-ready t).levels m h).0; passes = ((worded-ready t).levels m h).1 }))
    where
      along : (m : ℕ) → m < level_count → Decides (is_set m (levels_from (works t) 0 able)) (HasAble m (worded t))
      along m h =
          record {
            holds = λ e. ⊎_elim (λ z. absurd (false≢true (sym (set_none m) ∙ z))) (slot-able m) (from_sound (works t) m h 0 able e);
            passes = λ x. from_complete (works t) m h 0 (s.ordered able_queue (omega arith)) (inr (able-slot m x));
          }

  pub along_right : {w : ℕ} → w ≡ levels_from (works t) 0 able → eqb w t.ready ≡ is_sound_ready t
  unfolding is_sound_ready
  along_right e = same_test equals (last (λ x. sym x ∙ e ∙ along-levels) equals λ x. e ∙ along-levels ∙ sym x)
