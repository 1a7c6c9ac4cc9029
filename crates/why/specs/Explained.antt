-- A table breaks no rule of `Broken` exactly where it is sound, and `why_of` finds the first: what `Theorem` states.
use Rattle.std.specs.Prelude.{Some, ◌≡◌, ◌≢◌, true, false, ℕ, ◌+◌, ◌*◌, ◌≤◌, ◌<◌, eqb, length, get_or}
use Rattle.std.proofs.Common.{sym, ap, subst, ◌∙◌, inl, inr, true≢false, arith}
use Rattle.std.proofs.lemmas.Bool.{false≢true}
use Rattle.queue.specs.Order.{Le, count}
use Rattle.rules.specs.Sizes.{task_count, channel_count, most_messages, greatest_message}
use Rattle.rules.specs.Table.{Table, task_of, channel_of, row_of, queue_of, queue_count, slot_in, works, written}
use Rattle.rules.specs.Family.{place_of}
use Rattle.rules.specs.Sound.{once, Shaped, TaskInRange, SoundTask, SoundChannel, SoundObjects, SoundQueues, Sound}
use Rattle.rules.specs.Decides.{equals, at_most, fails, if_so}
use Rattle.rules.proofs.Tested.{no_task_lem, no_semaphore_lem, no_mutex_lem, no_group_lem, no_channel_lem}
use Rattle.why.specs.declared.Reason.{Reason}
use Rattle.why.specs.Broken.{Broken, queue_at, slot_at, channel_at, message_at, task_used, task_base, task_work, task_suspend, task_quantum, task_left, task_state, task_object, task_marked, task_due, task_outcome, task_mask, task_test, task_consume, task_message, task_free, task_plain_mark, task_delay_mark, task_left_most, task_asks, task_turn, semaphore_used, semaphore_counts, semaphore_free, mutex_used, mutex_holder, mutex_nesting, mutex_free, mutex_unheld, mutex_held, group_used, group_flags, group_free, channel_used, channel_capacity, channel_held, channel_free, channel_room, message_range, message_unused, wait_used, wait_nothing, wait_apart, holder_used, queue_places, queue_nothing_else, queue_ordered, task_worked, task_not_due, tick_range, depth_range, running_range, running_first, running_able, default_least, default_most, ready_word, ready_levels}
use Rattle.why.specs.Tests.{why_of, reason, rule_end, kept_in, is_kept, first_at, found_at}
use Rattle.why.specs.Slots.{all_slots, slot_of, ordered-slots, slots-ordered, stand_decides, each_slot}
use Rattle.why.specs.Ready.{level_decides}
use Rattle.why.specs.Decided.{unrefuted, used_decides, nothing_decides, apart_decides, holder_decides, work_decides, placed_decides, run_decides, broken-fails, fails-broken}
use Rattle.why.specs.Least.{FirstBroken, FoundFrom, found, found_some, first_is}
use Rattle.why.specs.Theorem.{Explains, SoundExactly, WhyExactly}

-- ---- a sound table breaks none

-- Slot j of queue q is one of the queue's.
slot-inside : {t : Table} → Sound t → (n : ℕ) → n < queue_count * task_count → slot_at n < length (queue_of t (queue_at n))
slot-inside s n h = let q : queue_at n < queue_count = omega arith in omega (arith, s.settled.queued.shaped.slots (queue_at n) q)

sound_keeps : {t : Table} {c i : ℕ} → Sound t → Broken t c i → ⊥
sound_keeps {t} s (task_used {i} h n) = n (s.settled.tasks i h).in_range.used
sound_keeps {t} s (task_base {i} h n) = n (s.settled.tasks i h).in_range.base
sound_keeps {t} s (task_work {i} h n) = n (s.settled.tasks i h).in_range.work
sound_keeps {t} s (task_suspend {i} h n) = n (s.settled.tasks i h).in_range.suspend
sound_keeps {t} s (task_quantum {i} h n) = n (s.settled.tasks i h).in_range.quantum
sound_keeps {t} s (task_left {i} h n) = n (s.settled.tasks i h).in_range.left
sound_keeps {t} s (task_state {i} h n) = n (s.settled.tasks i h).in_range.state
sound_keeps {t} s (task_object {i} h n) = n (s.settled.tasks i h).in_range.object
sound_keeps {t} s (task_marked {i} h n) = n (s.settled.tasks i h).in_range.marked
sound_keeps {t} s (task_due {i} h n) = n (s.settled.tasks i h).in_range.due
sound_keeps {t} s (task_outcome {i} h n) = n (s.settled.tasks i h).in_range.outcome
sound_keeps {t} s (task_mask {i} h n) = n (s.settled.tasks i h).in_range.mask
sound_keeps {t} s (task_test {i} h n) = n (s.settled.tasks i h).in_range.test
sound_keeps {t} s (task_consume {i} h n) = n (s.settled.tasks i h).in_range.consume
sound_keeps {t} s (task_message {i} h n) = n (s.settled.tasks i h).in_range.message
sound_keeps {t} s (task_free {i} h n) = n (s.settled.tasks i h).free_zero
sound_keeps {t} s (task_plain_mark {i} h n) = n (s.settled.tasks i h).plain_mark
sound_keeps {t} s (task_delay_mark {i} h n) = n (s.settled.tasks i h).delay_mark
sound_keeps {t} s (task_left_most {i} h n) = n (s.settled.tasks i h).left
sound_keeps {t} s (task_asks {i} h n) = n (s.settled.tasks i h).asks
sound_keeps {t} s (task_turn {i} h n) = n (s.settled.tasks i h).turn
sound_keeps {t} s (semaphore_used {i} h n) = n (s.settled.objects.semaphores i h).used
sound_keeps {t} s (semaphore_counts {i} h n) = n (s.settled.objects.semaphores i h).count
sound_keeps {t} s (semaphore_free {i} h n) = n (s.settled.objects.semaphores i h).free
sound_keeps {t} s (mutex_used {i} h n) = n (s.settled.objects.mutexes i h).used
sound_keeps {t} s (mutex_holder {i} h n) = n (s.settled.objects.mutexes i h).holder
sound_keeps {t} s (mutex_nesting {i} h n) = n (s.settled.objects.mutexes i h).nesting
sound_keeps {t} s (mutex_free {i} h n) = n (s.settled.objects.mutexes i h).free
sound_keeps {t} s (mutex_unheld {i} h n) = n (s.settled.objects.mutexes i h).unheld
sound_keeps {t} s (mutex_held {i} h n) = n (s.settled.objects.mutexes i h).held
sound_keeps {t} s (group_used {i} h n) = n (s.settled.objects.groups i h).used
sound_keeps {t} s (group_flags {i} h n) = n (s.settled.objects.groups i h).flags
sound_keeps {t} s (group_free {i} h n) = n (s.settled.objects.groups i h).free
sound_keeps {t} s (channel_used {i} h n) = n (s.settled.objects.channels i h).used
sound_keeps {t} s (channel_capacity {i} h n) = n (s.settled.objects.channels i h).capacity
sound_keeps {t} s (channel_held {i} h n) = n (s.settled.objects.channels i h).held
sound_keeps {t} s (channel_free {i} h n) = n (s.settled.objects.channels i h).free
sound_keeps {t} s (channel_room {i} h n) = n (s.settled.objects.channels i h).room
sound_keeps {t} s (message_range {n = i} h n) = n ((s.settled.objects.channels (channel_at i) (omega arith)).messages (message_at i) (omega arith))
sound_keeps {t} s (message_unused {n = i} h n) = n ((s.settled.objects.channels (channel_at i) (omega arith)).unused (message_at i) (omega arith))
sound_keeps {t} s (wait_used {i} h n) = n (λ f a e. (s.settled.objects.waits i h f a e).used)
sound_keeps {t} s (wait_nothing {i} h n) = n (λ f a e. (s.settled.objects.waits i h f a e).nothing)
sound_keeps {t} s (wait_apart {i} h n) = n (λ f a e. (s.settled.objects.waits i h f a e).apart)
sound_keeps {t} s (holder_used {i} h n) = n (s.settled.objects.holders i h)
sound_keeps {t} s (queue_places {n = i} h n) = n (s.settled.queued.places (queue_at i) (omega arith) (slot_at i) (omega arith))
sound_keeps {t} s (queue_nothing_else {n = i} h n) = n (slot_of (s.settled.queued.nothing_else (queue_at i) (omega arith)) (slot_at i) (slot-inside s i h))
sound_keeps {t} s (queue_ordered {n = i} h n) = n (slots-ordered (works t) (s.settled.queued.ordered (queue_at i) (omega arith)) (slot_at i) (slot-inside s i h))
sound_keeps {t} s (task_worked {i} h n) = n (s.settled.worked i h)
sound_keeps {t} s (task_not_due {i} h n) = n (s.not_due i h)
sound_keeps {t} s (tick_range n) = n s.settled.numbers.tick
sound_keeps {t} s (depth_range n) = n s.settled.numbers.depth
sound_keeps {t} s (running_range n) = n s.runs.range
sound_keeps {t} s (running_first n) = n s.runs.first
sound_keeps {t} s (running_able n) = n s.runs.able
sound_keeps {t} s (default_least n) = n s.settled.numbers.default_least
sound_keeps {t} s (default_most n) = n s.settled.numbers.default_most
sound_keeps {t} s (ready_word n) = n s.settled.queued.ready.word
sound_keeps {t} s (ready_levels {l} h n) = n (s.settled.queued.ready.levels l h)

-- ---- a table that breaks none is sound

module _ {t : Table} (w : Shaped t) (keeps : (c i : ℕ) → Broken t c i → ⊥) where
  ranges : (i : ℕ) → i < task_count → TaskInRange (task_of t i)
  ranges i h =
      record {
        used = unrefuted at_most (λ n. keeps _ i (task_used h n));
        base = unrefuted at_most (λ n. keeps _ i (task_base h n));
        work = unrefuted at_most (λ n. keeps _ i (task_work h n));
        suspend = unrefuted at_most (λ n. keeps _ i (task_suspend h n));
        quantum = unrefuted at_most (λ n. keeps _ i (task_quantum h n));
        left = unrefuted at_most (λ n. keeps _ i (task_left h n));
        state = unrefuted at_most (λ n. keeps _ i (task_state h n));
        object = unrefuted at_most (λ n. keeps _ i (task_object h n));
        marked = unrefuted at_most (λ n. keeps _ i (task_marked h n));
        due = unrefuted at_most (λ n. keeps _ i (task_due h n));
        outcome = unrefuted at_most (λ n. keeps _ i (task_outcome h n));
        mask = unrefuted at_most (λ n. keeps _ i (task_mask h n));
        test = unrefuted at_most (λ n. keeps _ i (task_test h n));
        consume = unrefuted at_most (λ n. keeps _ i (task_consume h n));
        message = unrefuted at_most (λ n. keeps _ i (task_message h n));
      }

  tasks : (i : ℕ) → i < task_count → SoundTask (task_of t i)
  tasks i h =
      record {
        in_range = ranges i h;
        free_zero = unrefuted (if_so equals (no_task_lem _)) (λ n. keeps _ i (task_free h n));
        plain_mark = unrefuted (if_so equals equals) (λ n. keeps _ i (task_plain_mark h n));
        delay_mark = unrefuted (if_so equals equals) (λ n. keeps _ i (task_delay_mark h n));
        left = unrefuted at_most (λ n. keeps _ i (task_left_most h n));
        asks = unrefuted (if_so equals at_most) (λ n. keeps _ i (task_asks h n));
        turn = unrefuted (if_so equals at_most) (λ n. keeps _ i (task_turn h n));
      }

  -- Each slot of each channel's row.
  messages : (c : ℕ) → c < channel_count → (j : ℕ) → j < most_messages → get_or (row_of t c) j 0 ≤ greatest_message
  messages = each_slot channel_count (λ c j. get_or (row_of t c) j 0 ≤ greatest_message) (λ n h. unrefuted at_most (λ k. keeps _ n (message_range h k)))

  unused : (c : ℕ) → c < channel_count → (j : ℕ) → j < most_messages → (channel_of t c).held ≤ j → get_or (row_of t c) j 0 ≡ 0
  unused = each_slot channel_count (λ c j. (channel_of t c).held ≤ j → get_or (row_of t c) j 0 ≡ 0) (λ n h. unrefuted (if_so at_most equals) (λ k. keeps _ n (message_unused h k)))

  channels : (i : ℕ) → i < channel_count → SoundChannel (channel_of t i) (row_of t i)
  channels i h =
      record {
        used = unrefuted at_most (λ n. keeps _ i (channel_used h n));
        capacity = unrefuted at_most (λ n. keeps _ i (channel_capacity h n));
        held = unrefuted at_most (λ n. keeps _ i (channel_held h n));
        free = unrefuted (if_so equals (no_channel_lem _)) (λ n. keeps _ i (channel_free h n));
        room = unrefuted (if_so equals at_most) (λ n. keeps _ i (channel_room h n));
        messages = messages i h;
        unused = unused i h;
      }

  objects : SoundObjects t
  objects =
      record {
        semaphores = λ i h. record {
          used = unrefuted at_most (λ n. keeps _ i (semaphore_used h n));
          count = unrefuted at_most (λ n. keeps _ i (semaphore_counts h n));
          free = unrefuted (if_so equals (no_semaphore_lem _)) (λ n. keeps _ i (semaphore_free h n));
        };
        mutexes = λ i h. record {
          used = unrefuted at_most (λ n. keeps _ i (mutex_used h n));
          holder = unrefuted at_most (λ n. keeps _ i (mutex_holder h n));
          nesting = unrefuted at_most (λ n. keeps _ i (mutex_nesting h n));
          free = unrefuted (if_so equals (no_mutex_lem _)) (λ n. keeps _ i (mutex_free h n));
          unheld = unrefuted (if_so equals equals) (λ n. keeps _ i (mutex_unheld h n));
          held = unrefuted (if_so (fails equals) at_most) (λ n. keeps _ i (mutex_held h n));
        };
        groups = λ i h. record {
          used = unrefuted at_most (λ n. keeps _ i (group_used h n));
          flags = unrefuted at_most (λ n. keeps _ i (group_flags h n));
          free = unrefuted (if_so equals (no_group_lem _)) (λ n. keeps _ i (group_free h n));
        };
        channels = channels;
        waits = λ i h f a e. record {
          used = unrefuted (used_decides t i) (λ n. keeps _ i (wait_used h n)) f a e;
          nothing = unrefuted (nothing_decides t i) (λ n. keeps _ i (wait_nothing h n)) f a e;
          apart = unrefuted (apart_decides t i) (λ n. keeps _ i (wait_apart h n)) f a e;
        };
        holders = λ i h. unrefuted (holder_decides t i) (λ n. keeps _ i (holder_used h n));
      }

  -- Each slot of each queue.
  stands : (q : ℕ) → q < queue_count → (j : ℕ) → j < task_count → slot_in q j t ≤ task_count
  stands = each_slot queue_count (λ q j. slot_in q j t ≤ task_count) (λ n h. unrefuted at_most (λ k. keeps _ n (queue_nothing_else h k)))

  before_next : (q : ℕ) → q < queue_count → (j : ℕ) → j < task_count → Le (works t) (slot_in q j t) (slot_in q (j + 1) t)
  before_next = each_slot queue_count (λ q j. Le (works t) (slot_in q j t) (slot_in q (j + 1) t)) (λ n h. unrefuted (stand_decides (works t) _ _) (λ k. keeps _ n (queue_ordered h k)))

  queues : SoundQueues t
  queues =
      record {
        shaped = w;
        places = each_slot queue_count (λ q i. count (written i) (queue_of t q) ≡ once (eqb (place_of (task_of t i)) q)) (λ n h. unrefuted (placed_decides t (queue_at n) (slot_at n)) (λ k. keeps _ n (queue_places h k)));
        nothing_else = λ q l. all_slots (queue_of t q) (λ j b. stands q l j (omega (arith, w.slots q l)));
        ordered = λ q l. ordered-slots (works t) (queue_of t q) (λ j b. before_next q l j (omega (arith, w.slots q l)));
        ready = record {
          word = unrefuted at_most (λ n. keeps _ 0 (ready_word n));
          levels = λ l h. unrefuted (level_decides t l) (λ n. keeps _ l (ready_levels h n));
        };
      }

  keeps_sound : Sound t
  keeps_sound =
      record {
        settled = record {
          queued = queues;
          worked = λ i h. unrefuted (work_decides t i w h) (λ n. keeps _ i (task_worked h n));
          tasks = tasks;
          objects = objects;
          numbers = record {
            tick = unrefuted at_most (λ n. keeps _ 0 (tick_range n));
            default_least = unrefuted at_most (λ n. keeps _ 0 (default_least n));
            default_most = unrefuted at_most (λ n. keeps _ 0 (default_most n));
            depth = unrefuted at_most (λ n. keeps _ 0 (depth_range n));
          };
        };
        not_due = λ i h. unrefuted (if_so equals (fails equals)) (λ n. keeps _ i (task_not_due h n));
        runs = record {
          range = unrefuted at_most (λ n. keeps _ 0 (running_range n));
          first = unrefuted (if_so equals equals) (λ n. keeps _ 0 (running_first n));
          able = unrefuted (if_so (fails equals) (run_decides t)) (λ n. keeps _ 0 (running_able n));
        };
      }

pub sound-exactly : SoundExactly
sound-exactly t w = ((λ s c i b. sound_keeps s b), keeps_sound w)

-- ---- what is found

-- There is no rule 0.
rule_none : (t : Table) (i : ℕ) → is_kept 0 i t ≡ false → ⊥
unfolding kept_in
rule_none t i e = true≢false e

-- No record keeps a rule and breaks it.
not_broken : {t : Table} {c i : ℕ} → Shaped t → is_kept c i t ≡ true → Broken t c i → ⊥
not_broken w e b = false≢true (sym (broken-fails w b).2 ∙ e)

module _ {t : Table} (w : Shaped t) where
  -- Nothing,
  none_broken : {r : Reason} → r ≡ reason 0 0 → ((c i : ℕ) → Broken t c i → ⊥) → Explains t r
  none_broken {r} e k =
      let rule : r.rule ≡ 0 = ap (λ (x : Reason). x.rule) e in
      record {
        sound = ((λ z. keeps_sound w k), λ s. rule);
        below = omega (arith, rule);
        none = λ z. ap (λ (x : Reason). x.number) e;
        broken = λ n. absurd (n rule);
        rules = λ c i l b. k c i b;
        records = λ i l b. k r.rule i b;
      }

  -- or the first that is broken.
  first_broken : {r : Reason} → FirstBroken 0 rule_end r.rule r.number t → Explains t r
  first_broken {r} f =
      let b : Broken t r.rule r.number = fails-broken t r.rule r.number w f.fails in
      let not-zero : r.rule ≢ 0 = λ z. no_rule (subst (λ (c : ℕ). Broken t c r.number) z b) in
      record {
        sound = ((λ z. absurd (not-zero z)), λ s. absurd (sound_keeps s b));
        below = omega (arith, f.within.1);
        none = λ z. absurd (not-zero z);
        broken = λ n. b;
        rules = λ c i l d. not_broken w (f.rules c (omega arith) l i (broken-fails w d).1) d;
        records = λ i l d. not_broken w (f.records i l) d;
      }
    where
      no_rule : {i : ℕ} → Broken t 0 i → ⊥
      no_rule {i} d = absurd (rule_none t i (broken-fails w d).2)

pub why-exactly : WhyExactly
why-exactly t w = go (found t)
  where
    go : FoundFrom rule_end 0 t (why_of t) → Explains t (why_of t)
    go (inl (e, k)) = none_broken w e (λ c i b. let f = broken-fails w b in not_broken w (k c (omega arith) (omega (arith, f.0)) i f.1) b)
    go (inr f) = first_broken w f

-- Nothing is found exactly where the table is sound.
module _ {t : Table} (w : Shaped t) where
  pub none_sound : why_of t ≡ reason 0 0 → Sound t
  none_sound e = (why-exactly t w).sound.0 (ap (λ (r : Reason). r.rule) e)

  pub some_unsound : {c i : ℕ} → why_of t ≡ reason c i → found_at c t ≡ Some i → Sound t → ⊥
  some_unsound {c} {i} e f s =
      let (h, k) = found_some c t f in
      let zero : c ≡ 0 = sym (ap (λ (r : Reason). r.rule) e) ∙ (why-exactly t w).sound.1 s in
      let fails : is_kept c (first_at c t) t ≡ false = (first_is c t).fails (omega arith) in
      rule_none t (first_at c t) (subst (λ (x : ℕ). is_kept x (first_at c t) t ≡ false) zero fails)
