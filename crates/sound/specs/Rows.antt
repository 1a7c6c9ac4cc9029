-- The tests of the fields, row by row, and that together they are the rules' tests of a task and of an object.
use Rattle.std.specs.Prelude.{◌≡◌, Bool, true, not, ◌&&◌, ◌||◌, ℕ, ◌≤◌, ◌<◌, eqb, leb, ltb}
use Rattle.std.proofs.Common.{ap, arith}
use Rattle.std.proofs.Math.Decide.{ℕ_discrete}
use Rattle.std.proofs.Math.Nat.{pos_of_ne-zero}
use borrow.Author.Tests.{eq-eqb, ne_eqb, le-leb}
use Rattle.rules.specs.Sizes.{task_count, semaphore_count, mutex_count, group_count, channel_count, greatest_message, last_priority, most_nested, most_quantum, most_count, ticks_round, flag_sets, test_count, plain, delayed, waits_flags, object_deleted}
use Rattle.rules.specs.declared.Task.{Task}
use Rattle.rules.specs.declared.Semaphore.{Semaphore}
use Rattle.rules.specs.declared.Mutex.{Mutex}
use Rattle.rules.specs.declared.Group.{Group}
use Rattle.rules.specs.Table.{Table, task_of, semaphore_of, mutex_of, group_of, channel_of, row_of, no_task, no_mutex}
use Rattle.rules.specs.Family.{last_state, of_state, objects_in}
use Rattle.rules.specs.Sound.{Each, each, implies, marks_in, asks_in, SoundTask, SoundTasks, is_sound_task, is_sound_semaphore, SoundMutex, is_sound_mutex, is_sound_group, is_sound_channel, NotDue}
use Rattle.rules.proofs.Tested.{task_right, semaphore_right, mutex_right, group_right}
use Rattle.rules.specs.Decides.{Decides, same_test, equals, at_most, fails, if_so, first, last, both, each_one}
use Rattle.sound.specs.Tests.{otherwise, unless}

-- ---- a task

-- Its priorities, and how often it is suspended.
unfoldable pub has_sound_levels : Task → Bool
has_sound_levels k =
    leb k.used 1
    && (leb k.base last_priority
    && (leb k.work last_priority
    && (leb k.suspend most_nested
    && (not (eqb k.used 0) || (eqb k.base 0 && (eqb k.work 0 && eqb k.suspend 0))))))

-- Its state and what goes with it. A free number that is plain has no object and no mark.
unfoldable pub has_sound_state : Task → Bool
has_sound_state k =
    leb k.state last_state
    && (ltb k.object (objects_in k.state)
    && (leb k.marked 1
    && (leb k.outcome object_deleted
    && ((ltb delayed k.state || eqb k.marked k.state)
    && (not (eqb k.used 0) || (eqb k.state 0 && eqb k.outcome 0))))))

-- What it asks of flags, but for the mask.
unfoldable pub has_sound_asks : Task → Bool
has_sound_asks k = ltb k.test (asks_in k.state test_count) && ltb k.consume (asks_in k.state 2)

abbrev pub has_sound_fields : Task → Bool
has_sound_fields k = has_sound_levels k && (has_sound_state k && has_sound_asks k)

-- Quantum and what is left of it.
unfoldable pub has_sound_turns : Task → Bool
has_sound_turns k =
    leb k.quantum most_quantum
    && (leb k.left most_quantum
    && (leb k.left k.quantum
    && ((not (eqb k.used 0) || eqb k.quantum 0)
    && (not (eqb k.used 1) || not (eqb k.quantum 0)))))

-- The mask: in range, and not 0 where it is asked for.
abbrev pub has_sound_mask : Task → Bool
has_sound_mask k = ltb k.mask (asks_in k.state flag_sets) && implies (eqb k.state waits_flags) (leb 1 k.mask)

-- The message: in range, and 0 where the number is free.
unfoldable pub has_sound_message : Task → Bool
has_sound_message k = leb k.message greatest_message && (not (eqb k.used 0) || eqb k.message 0)

-- The due mark: in range, and "no mark equals the tick counter".
abbrev pub is_mark_in_range : Task → Bool
is_mark_in_range k = ltb k.due (marks_in k.marked)

abbrev pub is_not_due : ℕ → Task → Bool
is_not_due tick k = implies (eqb k.marked 1) (not (eqb k.due tick))

abbrev pub has_sound_mark : ℕ → Task → Bool
has_sound_mark tick k = is_mark_in_range k && is_not_due tick k

abbrev pub are_not_due : Table → Bool
are_not_due t = each task_count (λ i. is_not_due t.tick (task_of t i))

one_object : {o state : ℕ} → state ≡ plain → o < objects_in state → o ≡ 0
unfolding of_state
one_object {o} {state} e h = let g : o < objects_in 0 = rw e at h in omega arith

one_mark : {due marked : ℕ} → marked ≡ 0 → due < marks_in marked → due ≡ 0
unfolding marks_in
one_mark {due} {marked} e h = let g : due < marks_in 0 = rw e at h in omega arith

none_asked : (x state n : ℕ) → (state ≡ waits_flags → ⊥) → x < asks_in state n → x ≡ 0
unfolding asks_in
none_asked x state n d h = let g : x < 1 = rw (ne_eqb state waits_flags d) at h in omega arith

module _ (k : Task) where
  record Levels : Type 0 where
    used : k.used ≤ 1
    base : k.base ≤ last_priority
    work : k.work ≤ last_priority
    suspend : k.suspend ≤ most_nested
    free : k.used ≡ 0 → (k.base ≡ 0) × ((k.work ≡ 0) × (k.suspend ≡ 0))

  levels : Decides (has_sound_levels k) Levels
  unfolding has_sound_levels
  levels =
      first (λ r. r.used) at_most λ used.
      first (λ r. r.base) at_most λ base.
      first (λ r. r.work) at_most λ work.
      first (λ r. r.suspend) at_most λ suspend.
      last (λ r. r.free) (unless equals (both equals (both equals equals))) λ free.
      record { used = used; base = base; work = work; suspend = suspend; free = free }

  record State : Type 0 where
    state : k.state ≤ last_state
    object : k.object < objects_in k.state
    marked : k.marked ≤ 1
    outcome : k.outcome ≤ object_deleted
    mark : (delayed < k.state → ⊥) → k.marked ≡ k.state
    free : k.used ≡ 0 → (k.state ≡ 0) × (k.outcome ≡ 0)

  states : Decides (has_sound_state k) State
  unfolding has_sound_state
  states =
      first (λ r. r.state) at_most λ state.
      first (λ r. r.object) at_most λ object.
      first (λ r. r.marked) at_most λ marked.
      first (λ r. r.outcome) at_most λ outcome.
      first (λ r. r.mark) (otherwise at_most equals) λ mark.
      last (λ r. r.free) (unless equals (both equals equals)) λ free.
      record { state = state; object = object; marked = marked; outcome = outcome; mark = mark; free = free }

  record Asks : Type 0 where
    test : k.test < asks_in k.state test_count
    consume : k.consume < asks_in k.state 2

  asks : Decides (has_sound_asks k) Asks
  unfolding has_sound_asks
  asks =
      first (λ r. r.test) at_most λ test.
      last (λ r. r.consume) at_most λ consume.
      record { test = test; consume = consume }

  record Mask : Type 0 where
    mask : k.mask < asks_in k.state flag_sets
    some : k.state ≡ waits_flags → 1 ≤ k.mask

  masks : Decides (has_sound_mask k) Mask
  masks =
      first (λ r. r.mask) at_most λ mask.
      last (λ r. r.some) (if_so equals at_most) λ some.
      record { mask = mask; some = some }

  record Message : Type 0 where
    message : k.message ≤ greatest_message
    free : k.used ≡ 0 → k.message ≡ 0

  messages : Decides (has_sound_message k) Message
  unfolding has_sound_message
  messages =
      first (λ r. r.message) at_most λ message.
      last (λ r. r.free) (unless equals equals) λ free.
      record { message = message; free = free }

  record Turns : Type 0 where
    quantum : k.quantum ≤ most_quantum
    left : k.left ≤ most_quantum
    within : k.left ≤ k.quantum
    free : k.used ≡ 0 → k.quantum ≡ 0
    some : k.used ≡ 1 → k.quantum ≡ 0 → ⊥

  turns : Decides (has_sound_turns k) Turns
  unfolding has_sound_turns
  turns =
      first (λ r. r.quantum) at_most λ quantum.
      first (λ r. r.left) at_most λ left.
      first (λ r. r.within) at_most λ within.
      first (λ r. r.free) (unless equals equals) λ free.
      last (λ r. r.some) (unless equals (fails equals)) λ some.
      record { quantum = quantum; left = left; within = within; free = free; some = some }

  levels_of : SoundTask k → Levels
  levels_of r =
      let g = r.in_range in
      record { used = g.used; base = g.base; work = g.work; suspend = g.suspend; free = λ e. let z = r.free_zero e in (ap (λ (x : Task). x.base) z, (ap (λ (x : Task). x.work) z, ap (λ (x : Task). x.suspend) z)) }

  state_of : SoundTask k → State
  state_of r =
      let g = r.in_range in
      record {
        state = g.state;
        object = g.object;
        marked = g.marked;
        outcome = g.outcome;
        mark = λ n. low (ℕ_discrete k.state plain) n;
        free = λ e. let z = r.free_zero e in (ap (λ (x : Task). x.state) z, ap (λ (x : Task). x.outcome) z);
      }
    where
      low : Dec (k.state ≡ plain) → (delayed < k.state → ⊥) → k.marked ≡ k.state
      low (yes e) n = omega (arith, r.plain_mark e)
      low (no d) n = let e : k.state ≡ delayed = omega arith in omega (arith, r.delay_mark e)

  asks_of : SoundTask k → Asks
  asks_of r = record { test = r.in_range.test; consume = r.in_range.consume }

  mask_of : SoundTask k → Mask
  mask_of r = record { mask = r.in_range.mask; some = r.asks }

  message_of : SoundTask k → Message
  message_of r = record { message = r.in_range.message; free = λ e. ap (λ (x : Task). x.message) (r.free_zero e) }

  turns_of : SoundTask k → Turns
  turns_of r =
      record {
        quantum = r.in_range.quantum;
        left = r.in_range.left;
        within = r.left;
        free = λ e. ap (λ (x : Task). x.quantum) (r.free_zero e);
        some = λ e z. omega (arith, r.turn e, z);
      }

  task_of_lem : Levels → State → Asks → Turns → Mask → Message → k.due < marks_in k.marked → SoundTask k
  task_of_lem v f a u m g d =
      record {
        in_range = record { used = v.used; base = v.base; work = v.work; suspend = v.suspend; quantum = u.quantum; left = u.left; state = f.state; object = f.object; marked = f.marked; due = d; outcome = f.outcome; mask = m.mask; test = a.test; consume = a.consume; message = g.message };
        free_zero = zero;
        plain_mark = λ e. omega (arith, f.mark (λ l. omega arith));
        delay_mark = λ e. omega (arith, f.mark (λ l. omega arith));
        left = u.within;
        asks = m.some;
        turn = λ e. pos_of_ne-zero (u.some e);
      }
    where
      zero : k.used ≡ 0 → k ≡ no_task
      zero e =
          let (base, (work, suspend)) = v.free e in
          let (state, outcome) = f.free e in
          let object : k.object ≡ 0 = one_object state f.object in
          let marked : k.marked ≡ 0 = omega (arith, f.mark (λ l. omega arith)) in
          let quantum : k.quantum ≡ 0 = u.free e in
          let left : k.left ≡ 0 = omega (arith, u.within) in
          let due : k.due ≡ 0 = one_mark marked d in
          let apart : k.state ≡ waits_flags → ⊥ = λ w. omega arith in
          let mask : k.mask ≡ 0 = none_asked k.mask k.state flag_sets apart m.mask in
          let test : k.test ≡ 0 = none_asked k.test k.state test_count apart a.test in
          let consume : k.consume ≡ 0 = none_asked k.consume k.state 2 apart a.consume in
          λ i. record { used = e i; base = base i; work = work i; suspend = suspend i; quantum = quantum i; left = left i; state = state i; object = object i; marked = marked i; due = due i; outcome = outcome i; mask = mask i; test = test i; consume = consume i; message = g.free e i }

  -- As the code asks, of numbers that fit their bytes.
  pub turns-row : k.quantum ≤ most_quantum → k.left ≤ most_quantum → leb k.left k.quantum && ((not (eqb k.used 0) || eqb k.quantum 0) && (not (eqb k.used 1) || not (eqb k.quantum 0))) ≡ has_sound_turns k
  unfolding has_sound_turns
  turns-row p q = rw (le-leb k.quantum most_quantum p, le-leb k.left most_quantum q)

  pub message-row : k.message ≤ greatest_message → not (eqb k.used 0) || eqb k.message 0 ≡ has_sound_message k
  unfolding has_sound_message
  message-row p = rw (le-leb k.message greatest_message p)

  pub mask-row : k.mask < flag_sets → (eqb k.state waits_flags || eqb k.mask 0) && (not (eqb k.state waits_flags) || not (eqb k.mask 0)) ≡ has_sound_mask k
  unfolding asks_in
  mask-row h =
      same_test
      (first (λ r d. none_asked k.mask k.state flag_sets d r.mask) (otherwise equals equals) λ none.
      last has (unless equals (fails equals)) λ some.
      record { mask = within (ℕ_discrete k.state waits_flags) none; some = λ e. omega (arith, pos_of_ne-zero (some e)) })
      masks
    where
      has : Mask → k.state ≡ waits_flags → k.mask ≡ 0 → ⊥
      has r e z = omega (arith, r.some e)

      within : Dec (k.state ≡ waits_flags) → ((k.state ≡ waits_flags → ⊥) → k.mask ≡ 0) → k.mask < asks_in k.state flag_sets
      within (yes e) none = rw (eq-eqb k.state waits_flags e) h
      within (no n) none = rw (ne_eqb k.state waits_flags n) (omega (arith, none n))

  pub mark-row : (tick : ℕ) → k.due < ticks_round → (not (eqb k.marked 0) || eqb k.due 0) && (not (eqb k.marked 1) || not (eqb k.due tick)) ≡ has_sound_mark tick k
  unfolding marks_in
  mark-row tick h =
      same_test
      (first (λ r e. one_mark e r.0) (unless equals equals) λ free.
      last (λ r. r.1) (unless equals (fails equals)) λ ahead. (within (ℕ_discrete k.marked 0) free, ahead))
      said
    where
      within : Dec (k.marked ≡ 0) → (k.marked ≡ 0 → k.due ≡ 0) → k.due < marks_in k.marked
      within (yes e) free = rw (eq-eqb k.marked 0 e) (omega (arith, free e))
      within (no n) free = rw (ne_eqb k.marked 0 n) h

      said : Decides (has_sound_mark tick k) ((k.due < marks_in k.marked) × (k.marked ≡ 1 → k.due ≡ tick → ⊥))
      said = both at_most (if_so equals (fails equals))

-- ---- all tasks

-- The rules' own: each task by itself, and no mark is due.
abbrev pub are_tasks_sound : Table → Bool
are_tasks_sound t = each task_count (λ i. is_sound_task (task_of t i)) && are_not_due t

module _ (t : Table) where
  tasks-say : Decides (are_tasks_sound t) (SoundTasks t × NotDue t)
  tasks-say = both (each_one (λ i l. task_right (task_of t i))) (each_one (λ i l. if_so equals (fails equals)))

  pub tasks-sound : are_tasks_sound t ≡ true → SoundTasks t
  tasks-sound e = (tasks-say.holds e).0

  rows-say : Decides (each task_count (λ i. has_sound_fields (task_of t i))
      && (each task_count (λ i. has_sound_turns (task_of t i))
      && (each task_count (λ i. has_sound_mask (task_of t i))
      && (each task_count (λ i. has_sound_message (task_of t i))
      && each task_count (λ i. has_sound_mark t.tick (task_of t i)))))) (SoundTasks t × NotDue t)
  rows-say =
      first fields (each_one (λ i l. both (levels (task_of t i)) (both (states (task_of t i)) (asks (task_of t i))))) λ f.
      first (λ r i l. turns_of (task_of t i) (r.0 i l)) (each_one (λ i l. turns (task_of t i))) λ u.
      first (λ r i l. mask_of (task_of t i) (r.0 i l)) (each_one (λ i l. masks (task_of t i))) λ k.
      first (λ r i l. message_of (task_of t i) (r.0 i l)) (each_one (λ i l. messages (task_of t i))) λ g.
      last marks (each_one (λ i l. both at_most (if_so equals (fails equals)))) λ m.
      ((λ i l. task_of_lem (task_of t i) (f i l).0 (f i l).1.0 (f i l).1.1 (u i l) (k i l) (g i l) (m i l).0), λ i l. (m i l).1)
    where
      fields : SoundTasks t × NotDue t → Each task_count (λ i. Levels (task_of t i) × (State (task_of t i) × Asks (task_of t i)))
      fields r i l = (levels_of (task_of t i) (r.0 i l), (state_of (task_of t i) (r.0 i l), asks_of (task_of t i) (r.0 i l)))

      marks : SoundTasks t × NotDue t → Each task_count (λ i. ((task_of t i).due < marks_in (task_of t i).marked) × ((task_of t i).marked ≡ 1 → (task_of t i).due ≡ t.tick → ⊥))
      marks (tasks, not_due) i l = ((tasks i l).in_range.due, not_due i l)

  pub tasks-rows : each task_count (λ i. has_sound_fields (task_of t i))
      && (each task_count (λ i. has_sound_turns (task_of t i))
      && (each task_count (λ i. has_sound_mask (task_of t i))
      && (each task_count (λ i. has_sound_message (task_of t i))
      && each task_count (λ i. has_sound_mark t.tick (task_of t i)))))
      ≡ are_tasks_sound t
  tasks-rows = same_test rows-say tasks-say

-- ---- objects

-- The rules' own: each object by itself.
abbrev pub are_objects_sound : Table → Bool
are_objects_sound t =
    each semaphore_count (λ i. is_sound_semaphore (semaphore_of t i))
    && (each mutex_count (λ i. is_sound_mutex (mutex_of t i))
    && (each group_count (λ i. is_sound_group (group_of t i))
    && each channel_count (λ i. is_sound_channel (channel_of t i) (row_of t i))))

-- A free number has zero fields; every count and every set of flags of 32 bits is in range.
pub semaphore_row : (x : Semaphore) → x.count ≤ most_count → leb x.used 1 && (not (eqb x.used 0) || eqb x.count 0) ≡ is_sound_semaphore x
semaphore_row x c =
    same_test
    (first (λ r. r.used) at_most λ used.
    last (λ r e. ap (λ (y : Semaphore). y.count) (r.free e)) (unless equals equals) λ free.
    record { used = used; count = c; free = λ e i. record { used = e i; count = free e i } })
    (semaphore_right x)

pub group_row : (x : Group) → x.flags < flag_sets → leb x.used 1 && (not (eqb x.used 0) || eqb x.flags 0) ≡ is_sound_group x
group_row x c =
    same_test
    (first (λ r. r.used) at_most λ used.
    last (λ r e. ap (λ (y : Group). y.flags) (r.free e)) (unless equals equals) λ free.
    record { used = used; flags = c; free = λ e i. record { used = e i; flags = free e i } })
    (group_right x)

-- What is held is in use, and so a free number has no holder.
pub mutex-row : (x : Mutex)
    → leb x.used 1 && (leb x.holder task_count && (leb x.nesting most_nested && ((not (eqb x.holder 0) || eqb x.nesting 0) && (eqb x.holder 0 || (not (eqb x.nesting 0) && not (eqb x.used 0))))))
    ≡ is_sound_mutex x
mutex-row x =
    same_test
    (first (λ r. r.used) at_most λ used.
    first (λ r. r.holder) at_most λ holder.
    first (λ r. r.nesting) at_most λ nesting.
    first (λ r. r.unheld) (unless equals equals) λ unheld.
    last held (otherwise equals (both (fails equals) (fails equals))) λ held.
    record { used = used; holder = holder; nesting = nesting; free = λ e. free (ℕ_discrete x.holder 0) held unheld e; unheld = unheld; held = λ d. omega (arith, pos_of_ne-zero (held d).0) })
    (mutex_right x)
  where
    held : SoundMutex x → (x.holder ≡ 0 → ⊥) → (x.nesting ≡ 0 → ⊥) × (x.used ≡ 0 → ⊥)
    held r n = ((λ e. omega (arith, r.held n)), (λ e. n (ap (λ (y : Mutex). y.holder) (r.free e))))

    free : Dec (x.holder ≡ 0) → ((x.holder ≡ 0 → ⊥) → (x.nesting ≡ 0 → ⊥) × (x.used ≡ 0 → ⊥)) → (x.holder ≡ 0 → x.nesting ≡ 0) → x.used ≡ 0 → x ≡ no_mutex
    free (yes h) held unheld e = λ i. record { used = e i; holder = h i; nesting = unheld h i }
    free (no n) held unheld e = absurd ((held n).1 e)
