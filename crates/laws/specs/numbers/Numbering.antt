-- The answer of `step` is the first number in the paper's order whose condition holds (`Numbers`).
use Rattle.std.specs.Prelude.{◌≡◌, ◌↔◌, Bool, true, false, cond, not, ◌&&◌, ◌||◌, ℕ, ◌≤◌, ◌<◌, eqb, leb, length, get_or}
use Rattle.std.proofs.Math.Path.{refl}
use Rattle.std.proofs.Common.{sym, ap, subst, ◌∙◌, inl, inr, le_antisymm, arith, leb-true}
use Rattle.queue.specs.Slots.{first_at}
use Rattle.rules.specs.Sizes.{task_count, channel_count, test_count, done, beyond_range, not_in_use, in_use, bad_value, by_interrupt, none_running, while_locked, nothing_to_take, not_sound}
use Rattle.rules.specs.Table.{Table, task_of, semaphore_of, mutex_of, channel_of, is_used}
use Rattle.rules.specs.Decides.{Decides, equals, at_most, itself, fails, both}
use Rattle.rules.proofs.Tested.{sound}
use Rattle.rules.specs.Task.{on_task, create_answer, delete_answer, priority_answer, suspend_answer, resume_answer}
use Rattle.rules.specs.Time.{caller_of, by_caller, yield_answer, delay_answer, delay_resume_answer}
use Rattle.rules.specs.Lock.{lock_answer, unlock_answer}
use Rattle.rules.specs.Quantum.{default_answer}
use Rattle.rules.specs.Family.{Family, semaphores, mutexes, groups, channels}
use Rattle.rules.specs.Object.{on_object, yes_no, block_answer, wait_answer_on, on_one, object_create_answer, object_delete_answer, object_abort_answer}
use Rattle.rules.specs.Semaphore as semaphore
use Rattle.rules.specs.Mutex as mutex
use Rattle.rules.specs.Group as group
use Rattle.rules.specs.Channel as channel
use Rattle.rules.specs.Sound.{is_sound}
use Rattle.rules.specs.Step.{answer_to, for_interrupts, answer, serve, step}
use Rattle.rules.specs.declared.Call.{Call}
use Rattle.laws.specs.queues.Put.{pick}
use Rattle.laws.specs.queues.Neighbours.{found}
use Rattle.laws.specs.numbers.Presumes.{interrupted, not_not, too_great, no_quantum, wrongly, no_capacity, channel-create_is, locked, runs-locked, answers, accepts}
use Rattle.laws.specs.numbers.Found.{peer, holding}
use Rattle.laws.specs.numbers.Numbers.{paper_order, rank, Thing, count_of, number_of, used_in, Creates, a_task, a_semaphore, a_mutex, a_group, a_channel, Deletes, semaphore_delete, mutex_delete, group_delete, channel_delete, AsksFor, semaphore_wait, mutex_wait, group_wait, channel_wait, Aborts, semaphore_abort, mutex_abort, group_abort, channel_abort, On, task_delete, change_priority, suspend, resume, delay_resume, to_delete, to_ask, to_abort, semaphore_post, mutex_post, group_post, channel_post, channel_flush, FindsNothing, counted, held, unmet, no_message, Gets, Answered}
use Rattle.laws.specs.numbers.Numbers.{unsound, interrupts, yield_by_none, delay_by_none, wait_by_none, mutex_post_by_none, beyond, unused, used, create_base, change_base, bad_force, bad_block, no_ticks, create_quantum, default_zero, default_above, wait_no_mask, fifth_test, bad_consume, post_no_mask, bad_on, bad_capacity, bad_front, no_room, non_blocking, locked_yield, locked_delay, locked_wait, locked_suspend, locked_delete, foreign, nested_mutex, nested_lock, nested_suspend, full, unlocked, unsuspended, undelayed, unawaited, alone, has_waiters, holder, waits, accepted}

-- ---- no condition of an earlier number holds

-- The number x comes no later than n.
record Soon (n x : ℕ) : Type 0 where
  soon : rank x ≤ rank n

within : {n : ℕ} (x : ℕ) → leb (rank x) (rank n) ≡ true → Soon n x
within x e = record { soon = leb-true _ _ e }

sooner : {n : ℕ} (m x : ℕ) → leb (rank m) (rank n) ≡ true → leb (rank x) (rank m) ≡ true → Soon n x
sooner {n} m x l e = record { soon = omega (arith, leb-true (rank x) (rank m) e, leb-true (rank m) (rank n) l) }

module _ {n : ℕ} where
  itself-soon : Soon n n
  itself-soon = record { soon = omega arith }

  -- A test that passes and gives n; one that fails; one that gives a number which comes no later.
  meets : {b : Bool} {x : ℕ} (y : ℕ) {B : Type 0} → Decides b B → B → Soon n x → Soon n (cond b x y)
  meets y d h s = pick (Soon n) d (λ h. s) λ none. absurd (none h)

  hit : {b : Bool} (y : ℕ) {B : Type 0} → Decides b B → B → Soon n (cond b n y)
  hit y d h = meets y d h itself-soon

  miss : {b : Bool} (x : ℕ) {y : ℕ} {B : Type 0} → Decides b B → (B → ⊥) → Soon n y → Soon n (cond b x y)
  miss x d none s = pick (Soon n) d (λ h. absurd (none h)) λ h. s

  past : {b : Bool} {x y : ℕ} {B : Type 0} → Decides b B → Soon n x → Soon n y → Soon n (cond b x y)
  past d e s = pick (Soon n) d (λ h. e) λ none. s

  module _ (late : leb (rank bad_value) (rank n) ≡ true) where
    -- The refusals that come before 4, and 4.
    early : (x : ℕ) → leb (rank x) (rank bad_value) ≡ true → Soon n x
    early x e = sooner bad_value x late e

    by_caller_lem : (t : Table) {x : ℕ} → Soon n x → Soon n (by_caller t x)
    unfolding rank paper_order first_at
    by_caller_lem t s = past (equals {x = t.running} {y = 0}) (early none_running refl) s

    on_object_lem : (count o is : ℕ) {x : ℕ} → Soon n x → Soon n (on_object count o is x)
    unfolding rank paper_order first_at
    on_object_lem count o is s = past (at_most {x = count} {y = o}) (early beyond_range refl) (past (fails (equals {x = is} {y = 1})) (early not_in_use refl) s)

    on_new : (count o is : ℕ) {x : ℕ} → Soon n x → Soon n (cond (leb count o) beyond_range (cond (is_used is) in_use x))
    unfolding rank paper_order first_at
    on_new count o is s = past (at_most {x = count} {y = o}) (early beyond_range refl) (past (equals {x = is} {y = 1}) (early in_use refl) s)

    on_task_lem : (t : Table) (i : ℕ) {x : ℕ} → Soon n x → Soon n (on_task i t x)
    on_task_lem t i = on_object_lem task_count i (task_of t i).used

    on_one_lem : (f : Family) (t : Table) (o : ℕ) {x : ℕ} → Soon n x → Soon n (on_one f o t x)
    on_one_lem f t o = on_object_lem f.count o (f.used t o)

    yes_no_lem : (byte : ℕ) {x : ℕ} → Soon n x → Soon n (yes_no byte x)
    yes_no_lem byte s = past (at_most {x = 2} {y = byte}) (within bad_value late) s

    rightly : (mask test : ℕ) {x : ℕ} → Soon n x → Soon n (cond (eqb mask 0 || leb test_count test) bad_value x)
    rightly mask test s = past (wrongly mask test) (within bad_value late) s

-- The answer of a step, test by test.
whole : (c : Call) (interrupt : Bool) (t : Table) → (step c interrupt t).answer ≡ cond (is_sound t) (cond (interrupt && not (for_interrupts c)) by_interrupt (answer_to c t)) not_sound
unfolding step serve answer
whole c interrupt t = go (is_sound t)
  where
    go : (b : Bool) → (cond b (serve c interrupt t) (Rattle.rules.specs.Step.unsound t)).answer ≡ cond b (cond (interrupt && not (for_interrupts c)) by_interrupt (answer_to c t)) not_sound
    go true = refl
    go false = refl

-- The call is answered no later number than n.
record NoLater (interrupt : Bool) (t : Table) (n : ℕ) (c : Call) : Type 0 where
  comes : rank (step c interrupt t).answer ≤ rank n

no_later : {interrupt : Bool} {t : Table} {n : ℕ} (c : Call) → Soon n (cond (is_sound t) (cond (interrupt && not (for_interrupts c)) by_interrupt (answer_to c t)) not_sound) → NoLater interrupt t n c
no_later {interrupt} {t} {n} c s = record { comes = subst (λ (x : ℕ). rank x ≤ rank n) (sym (whole c interrupt t)) s.soon }

most : rank done < length paper_order
unfolding rank paper_order first_at
most = omega arith

-- A number of the order can be read off it.
unlisted : (n : ℕ) → rank n ≤ rank done → get_or paper_order (rank n) 0 ≡ n
unfolding rank
unlisted n l = found n paper_order (omega (arith, most))

-- What the calls of every family are answered, over the family.
deletes_is : {c : Call} {f : Family} {o force : ℕ} → Deletes c f o force → (t : Table) → answer_to c t ≡ object_delete_answer f o force t
unfolding answer_to
deletes_is semaphore_delete t = refl
deletes_is mutex_delete t = refl
deletes_is group_delete t = refl
deletes_is channel_delete t = refl

aborts_is : {c : Call} {f : Family} {o : ℕ} → Aborts c f o → (t : Table) → answer_to c t ≡ object_abort_answer f o t
unfolding answer_to
aborts_is semaphore_abort t = refl
aborts_is mutex_abort t = refl
aborts_is group_abort t = refl
aborts_is channel_abort t = refl

asks_is : {c : Call} {f : Family} {o block : ℕ} → AsksFor c f o block → (t : Table) → (x : ℕ) × (answer_to c t ≡ wait_answer_on f o block x t)
unfolding answer_to semaphore.wait_answer mutex.wait_answer group.wait_answer channel.wait_answer
asks_is semaphore_wait t = (_, refl)
asks_is mutex_wait t = (_, refl)
asks_is group_wait t = (_, refl)
asks_is channel_wait t = (_, refl)

module _ (t : Table) where
  -- A call on a thing tests the thing first, or after the caller.
  on_start : {c : Call} {x : Thing} → On c x → (P : ℕ → Type 0) → P none_running → ((n : ℕ) → P (on_object (count_of x) (number_of x) (used_in t x) n)) → P (answer_to c t)
  unfolding count_of number_of used_in answer_to delete_answer priority_answer suspend_answer resume_answer delay_resume_answer object_delete_answer object_abort_answer semaphore.wait_answer semaphore.post_answer mutex.wait_answer mutex.post_answer group.wait_answer group.post_answer channel.wait_answer channel.post_answer channel.flush_answer
  on_start task_delete P none on = on _
  on_start change_priority P none on = on _
  on_start suspend P none on = on _
  on_start resume P none on = on _
  on_start delay_resume P none on = on _
  on_start (to_delete d) P none on = rw (deletes_is d t) (on _)
  on_start (to_ask w) P none on = rw (asks_is w t).1 (pick P (equals {x = t.running} {y = 0}) (λ z. none) λ z. on _)
  on_start (to_abort a) P none on = rw (aborts_is a t) (on _)
  on_start semaphore_post P none on = on _
  on_start mutex_post P none on = pick P (equals {x = t.running} {y = 0}) (λ z. none) λ z. on _
  on_start group_post P none on = on _
  on_start channel_post P none on = on _
  on_start channel_flush P none on = on _

  new_start : {c : Call} {x : Thing} → Creates c x → (P : ℕ → Type 0) → ((n : ℕ) → P (cond (leb (count_of x) (number_of x)) beyond_range (cond (is_used (used_in t x)) in_use n))) → P (answer_to c t)
  unfolding count_of number_of used_in answer_to create_answer object_create_answer
  new_start a_task P on = on _
  new_start a_semaphore P on = on _
  new_start a_mutex P on = on _
  new_start a_group P on = on _
  new_start (a_channel {o} {capacity}) P on = rw (channel-create_is o capacity t) (on _)

  nothing_start : {n block : ℕ} {c : Call} → leb (rank bad_value) (rank n) ≡ true → FindsNothing t block c → Soon n (block_answer block t) → Soon n (answer_to c t)
  unfolding answer_to semaphore.wait_answer mutex.wait_answer group.wait_answer channel.wait_answer
  nothing_start l (counted {s} {block} z) r =
      by_caller_lem l t (on_one_lem l semaphores t s (yes_no_lem l block (miss done at_most (λ (h : 1 ≤ (semaphore_of t s).count). omega arith) r)))
  nothing_start l (held {m} {block} d e) r = by_caller_lem l t (on_one_lem l mutexes t m (yes_no_lem l block (miss done (not_not equals) d (miss _ equals e r))))
  nothing_start l (unmet {g} {block} {mask = mask} {test} {consume} n) r =
      by_caller_lem l t (on_one_lem l groups t g (yes_no_lem l block (rightly l mask test (yes_no_lem l consume (miss done itself n r)))))
  nothing_start l (no_message {o} {block} z) r =
      by_caller_lem l t (on_one_lem l channels t o (yes_no_lem l block (miss done at_most (λ (h : 1 ≤ (channel_of t o).held). omega arith) r)))

  module _ {interrupt : Bool} where
    -- A refusal of the call itself comes after 15 and 5.
    own : {n : ℕ} {c : Call} → leb (rank none_running) (rank n) ≡ true → Soon n (answer_to c t) → NoLater interrupt t n c
    unfolding rank paper_order first_at
    own {c = c} l s = no_later c (past (sound t) (past (interrupted interrupt c) (sooner none_running by_interrupt l refl) s) (sooner none_running not_sound l refl))

    rows : {n : ℕ} {c : Call} → Gets interrupt t n c → NoLater interrupt t n c
    unfolding rank paper_order first_at answer_to create_answer delete_answer priority_answer suspend_answer resume_answer yield_answer delay_answer delay_resume_answer lock_answer unlock_answer default_answer object_delete_answer object_abort_answer semaphore.wait_answer semaphore.post_answer mutex.wait_answer mutex.post_answer group.wait_answer group.post_answer channel.wait_answer channel.post_answer channel.flush_answer
    rows {c = c} (unsound s) = no_later c (miss _ (sound t) s itself-soon)
    rows {c = c} (interrupts e f) = no_later c (past (sound t) (hit _ (interrupted interrupt c) (e, f)) (within not_sound refl))
    rows (yield_by_none z) = own refl (hit _ equals z)
    rows (delay_by_none z) = own refl (hit _ equals z)
    rows (wait_by_none w z) = own refl (rw (asks_is w t).1 (hit _ equals z))
    rows (mutex_post_by_none z) = own refl (hit _ equals z)
    rows (beyond (inl o) l) = own refl (on_start o (Soon beyond_range) (within none_running refl) (λ n. hit _ at_most l))
    rows (beyond (inr o) l) = own refl (new_start o (Soon beyond_range) (λ n. hit _ at_most l))
    rows (unused {x = x} o d) =
        own refl (on_start o (Soon not_in_use) (within none_running refl) (λ n. past (at_most {x = count_of x} {y = number_of x}) (within beyond_range refl) (hit n (fails equals) d)))
    rows (used {x = x} o e) = own refl (new_start o (Soon in_use) (λ n. past (at_most {x = count_of x} {y = number_of x}) (within beyond_range refl) (hit n equals e)))
    rows (create_base {i} {base} {quantum} h) = own refl (on_new refl task_count i (task_of t i).used (hit _ (too_great base quantum) (inl h)))
    rows (change_base {i} h) = own refl (on_task_lem refl t i (hit _ at_most h))
    rows (bad_force {f = f} {o} d h) = own refl (rw (deletes_is d t) (on_one_lem refl f t o (hit _ at_most h)))
    rows (bad_block {f = f} {o} w h) = own refl (rw (asks_is w t).1 (by_caller_lem refl t (on_one_lem refl f t o (hit _ at_most h))))
    rows (no_ticks z) = own refl (by_caller_lem refl t (hit _ equals z))
    rows (create_quantum {i} {base} {quantum} h) = own refl (on_new refl task_count i (task_of t i).used (hit _ (too_great base quantum) (inr h)))
    rows (default_zero {n} z) = own refl (hit _ (no_quantum n) (inl z))
    rows (default_above {n} h) = own refl (hit _ (no_quantum n) (inr h))
    rows (wait_no_mask {g} {block} {mask = mask} {test} z) = own refl (by_caller_lem refl t (on_one_lem refl groups t g (yes_no_lem refl block (hit _ (wrongly mask test) (inl z)))))
    rows (fifth_test {g} {block} {mask = mask} {test} h) = own refl (by_caller_lem refl t (on_one_lem refl groups t g (yes_no_lem refl block (hit _ (wrongly mask test) (inr h)))))
    rows (bad_consume {g} {block} {mask = mask} {test} h) = own refl (by_caller_lem refl t (on_one_lem refl groups t g (yes_no_lem refl block (rightly refl mask test (hit _ at_most h)))))
    rows (post_no_mask {g} z) = own refl (on_one_lem refl groups t g (hit _ equals z))
    rows (bad_on {g} {mask} h) = own refl (on_one_lem refl groups t g (past (equals {x = mask} {y = 0}) (within bad_value refl) (hit _ at_most h)))
    rows (bad_capacity {o} {capacity} h) = own refl (rw (channel-create_is o capacity t) (on_new refl channel_count o (channel_of t o).used (hit _ (no_capacity capacity) h)))
    rows (bad_front {o} h) = own refl (on_one_lem refl channels t o (hit _ at_most h))
    rows (no_room {o} {front = front} h) = own refl (on_one_lem refl channels t o (yes_no_lem refl front (hit _ at_most h)))
    rows (non_blocking f z) = own refl (nothing_start refl f (hit _ equals z))
    rows (locked_yield d) = own refl (by_caller_lem refl t (hit _ (locked t) d))
    rows (locked_delay {n} d) = own refl (by_caller_lem refl t (past (equals {x = n} {y = 0}) (within bad_value refl) (hit _ (locked t) d)))
    rows (locked_wait {block} d f) = own refl (nothing_start refl f (past (equals {x = block} {y = 0}) (within nothing_to_take refl) (hit _ (locked t) d)))
    rows (locked_suspend {i} d e) = own refl (on_task_lem refl t i (hit _ (runs-locked i t) (d, e)))
    rows (locked_delete {i} d e) = own refl (on_task_lem refl t i (hit _ (runs-locked i t) (d, e)))
    rows (foreign {m} d) = own refl (by_caller_lem refl t (on_one_lem refl mutexes t m (hit _ (fails equals) d)))
    rows (nested_mutex {m} {block} e h) =
        own refl
        (by_caller_lem refl t
        (on_one_lem refl mutexes t m
        (yes_no_lem refl block
        (miss done (not_not equals) (λ (z : (mutex_of t m).holder ≡ 0). omega arith)
        (meets _ equals e (hit _ at_most h))))))
    rows (nested_lock h) = own refl (hit _ at_most h)
    rows (nested_suspend {i} h) = own refl (on_task_lem refl t i (past (runs-locked i t) (within while_locked refl) (hit _ at_most h)))
    rows (full {s} h) = own refl (on_one_lem refl semaphores t s (hit _ at_most h))
    rows (unlocked z) = own refl (hit _ equals z)
    rows (unsuspended {i} z) = own refl (on_task_lem refl t i (hit _ equals z))
    rows (undelayed {i} d) = own refl (on_task_lem refl t i (hit _ (fails equals) d))
    rows (unawaited {f = f} {o} a z) = own refl (rw (aborts_is a t) (on_one_lem refl f t o (hit _ (not_not equals) z)))
    rows (alone n) = own refl (by_caller_lem refl t (past (locked t) (within while_locked refl) (hit _ (fails (peer (caller_of t) t)) n)))
    rows (has_waiters {f = f} {o} {force} x z d) = own refl (rw (deletes_is x t) (on_one_lem refl f t o (yes_no_lem refl force (hit _ (both equals (fails equals)) (z, d)))))
    rows (holder {i} h) = own refl (on_task_lem refl t i (past (runs-locked i t) (within while_locked refl) (hit _ (holding i t) h)))
    rows (waits {block} f) = own refl (nothing_start refl f (past (equals {x = block} {y = 0}) (within nothing_to_take refl) (past (locked t) (within while_locked refl) itself-soon)))
    rows {c = c} accepted = own refl (record { soon = (answers interrupt t c).listed })

-- ---- the law

-- The answer of a step is the first number in the paper's order whose condition holds.
pub answered : (c : Call) (interrupt : Bool) (t : Table) → Answered (step c interrupt t).answer c interrupt t
unfolding answer
answered c interrupt t =
    record {
      holds = subst (λ (n : ℕ). Gets interrupt t n c) (sym (whole c interrupt t)) (pick (λ n. Gets interrupt t n c) (sound t) (λ s. (accepts c interrupt t).why) unsound);
      first = λ m g. (rows t g).comes;
    }

-- So a call is answered n exactly where that is said of n; no number is given otherwise.
pub exactly : (n : ℕ) (c : Call) (interrupt : Bool) (t : Table) → ((step c interrupt t).answer ≡ n) ↔ Answered n c interrupt t
exactly n c interrupt t = ((λ e. rw e at (answered c interrupt t)), λ a. one a)
  where
    given : ℕ
    given = (step c interrupt t).answer

    one : Answered n c interrupt t → given ≡ n
    one a =
        let b = answered c interrupt t in
        let e : rank given ≡ rank n = le_antisymm (b.first n a.holds) (a.first given b.holds) in
        sym (unlisted given (b.first done accepted)) ∙ ap (λ (i : ℕ). get_or paper_order i 0) e ∙ unlisted n (a.first done accepted)
