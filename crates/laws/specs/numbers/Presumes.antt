-- Of each call, whatever it is answered: the condition of that number holds (`Numbers`), it is one of the list and not 15, and where it
-- changes anything, what the call presumes holds.
use Rattle.std.specs.Prelude.{◌≡◌, ◌⊎◌, ◌≢◌, Bool, true, false, cond, not, ◌&&◌, ◌||◌, ℕ, ◌≤◌, ◌<◌, eqb, ltb, leb}
use Rattle.std.proofs.Math.Path.{refl}
use Rattle.std.proofs.Common.{sym, inl, inr, ⊎_elim}
use Rattle.std.proofs.lemmas.Bool.{false≢true}
use native.Mathlib.Omega.{arith}
use Rattle.queue.specs.Slots.{first_at}
use Rattle.rules.specs.Sizes.{task_count, semaphore_count, mutex_count, group_count, channel_count, most_messages, test_count, last_priority, most_nested, most_quantum, most_count, delayed, done, beyond_range, in_use, not_sound}
use Rattle.rules.specs.Table.{Table, asking, task_of, semaphore_of, mutex_of, group_of, channel_of, first_in, written, is_used}
use Rattle.rules.specs.Decides.{Decides, equals, at_most, itself, fails, either, both}
use Rattle.rules.specs.Move.{is_running, has_peer}
use Rattle.rules.specs.Task.{is_locked, create_answer, delete_answer, priority_answer, suspend_answer, resume_answer}
use Rattle.rules.specs.Time.{caller_of, yield_answer, delay_answer, delay_resume_answer}
use Rattle.rules.specs.Lock.{lock_answer, unlock_answer}
use Rattle.rules.specs.Quantum.{default_answer}
use Rattle.rules.specs.Family.{Family, waiters_of, semaphores, mutexes, groups, channels}
use Rattle.rules.specs.Object.{on_object, block_answer, wait_answer_on, object_create_answer, object_delete_answer, object_abort_answer}
use Rattle.rules.specs.Semaphore as semaphore
use Rattle.rules.specs.Mutex as mutex
use Rattle.rules.specs.Group.{flags_of, is_met}
use Rattle.rules.specs.Group as group
use Rattle.rules.specs.Channel.{right_capacity}
use Rattle.rules.specs.Channel as channel
use Rattle.rules.specs.Step.{changes, answer_to, for_interrupts, answer}
use Rattle.rules.specs.declared.Call.{Call}
use Rattle.rules.specs.declared.Call.TheVariants.{TaskCreate, TaskDelete, ChangePriority, Suspend, Resume, Yield, Delay, DelayResume, Lock, Unlock, Tick, SetDefaultQuantum, SemaphoreCreate, SemaphoreDelete, SemaphoreWait, SemaphorePost, SemaphoreAbort, MutexCreate, MutexDelete, MutexWait, MutexPost, MutexAbort, GroupCreate, GroupDelete, GroupWait, GroupPost, GroupAbort, ChannelCreate, ChannelDelete, ChannelWait, ChannelPost, ChannelAbort, ChannelFlush}
use Rattle.laws.specs.queues.Put.{pick, pick_not}
use Rattle.laws.specs.numbers.Found.{peer, holding}
use Rattle.laws.specs.numbers.Numbers.{paper_order, rank, Thing, object, count_of, number_of, used_in, Creates, a_task, a_semaphore, a_mutex, a_group, a_channel, Deletes, semaphore_delete, mutex_delete, group_delete, channel_delete, AsksFor, semaphore_wait, mutex_wait, group_wait, channel_wait, Aborts, semaphore_abort, mutex_abort, group_abort, channel_abort, On, task_delete, change_priority, suspend, resume, delay_resume, to_delete, to_ask, to_abort, semaphore_post, mutex_post, group_post, channel_post, channel_flush, FindsNothing, counted, held, unmet, no_message, Holds, Gets}
use Rattle.laws.specs.numbers.Numbers.{interrupts, yield_by_none, delay_by_none, wait_by_none, mutex_post_by_none, beyond, unused, used, create_base, change_base, bad_force, bad_block, no_ticks, create_quantum, default_zero, default_above, wait_no_mask, fifth_test, bad_consume, post_no_mask, bad_on, bad_capacity, bad_front, no_room, non_blocking, locked_yield, locked_delay, locked_wait, locked_suspend, locked_delete, foreign, nested_mutex, nested_lock, nested_suspend, full, unlocked, unsuspended, undelayed, unawaited, alone, has_waiters, holder, waits, accepted}

-- ---- what is accepted

-- Number o of a family may be created; it has a waiter that may go.
abbrev pub MayCreate : Family → ℕ → Table → Type 0
MayCreate f o t = (o < f.count) × (f.used t o ≢ 1)

abbrev pub MayAbort : Family → ℕ → Table → Type 0
MayAbort f o t = (o < f.count) × (first_in (waiters_of f o) t ≢ 0)

-- What holds wherever the call is not refused. More may be needed for that: `Numbers` has the exact conditions.
abbrev pub Presumes : Call → Table → Type 0
Presumes (TaskCreate i base quantum) t = (i < task_count) × ((task_of t i).used ≢ 1) × (base ≤ last_priority) × (quantum ≤ most_quantum)
Presumes (TaskDelete i) t = (i < task_count) × ((task_of t i).used ≡ 1) × (t.depth ≢ 0 → t.running ≢ written i) × (Holds i t → ⊥)
Presumes (ChangePriority i base) t = (i < task_count) × ((task_of t i).used ≡ 1) × (base ≤ last_priority)
Presumes (Suspend i) t = (i < task_count) × ((task_of t i).used ≡ 1) × (t.depth ≢ 0 → t.running ≢ written i) × ((task_of t i).suspend < most_nested)
Presumes (Resume i) t = (i < task_count) × ((task_of t i).used ≡ 1) × ((task_of t i).suspend ≢ 0)
Presumes Yield t = (t.running ≢ 0) × (t.depth ≡ 0) × (has_peer (caller_of t) t ≡ true)
Presumes (Delay n) t = (t.running ≢ 0) × (n ≢ 0) × (t.depth ≡ 0)
Presumes (DelayResume i) t = (i < task_count) × ((task_of t i).used ≡ 1) × ((task_of t i).state ≡ delayed)
Presumes Lock t = t.depth < most_nested
Presumes Unlock t = t.depth ≢ 0
Presumes Tick t = Unit {0}
Presumes (SetDefaultQuantum n) t = (n ≢ 0) × (n ≤ most_quantum)
Presumes (SemaphoreCreate s n) t = MayCreate semaphores s t
Presumes (SemaphoreDelete s force) t = s < semaphore_count
Presumes (SemaphoreWait s block limit) t = (t.running ≢ 0) × (s < semaphore_count) × ((semaphore_of t s).used ≡ 1) × ((semaphore_of t s).count ≡ 0 → t.depth ≡ 0)
Presumes (SemaphorePost s) t = (s < semaphore_count) × ((semaphore_of t s).used ≡ 1) × ((semaphore_of t s).count < most_count)
Presumes (SemaphoreAbort s) t = MayAbort semaphores s t
Presumes (MutexCreate m) t = MayCreate mutexes m t
Presumes (MutexDelete m force) t = m < mutex_count
Presumes (MutexWait m block limit) t =
    (t.running ≢ 0) × (m < mutex_count) × ((mutex_of t m).used ≡ 1)
    × ((mutex_of t m).holder ≡ written (caller_of t) → (mutex_of t m).nesting < most_nested)
    × ((mutex_of t m).holder ≢ 0 → (mutex_of t m).holder ≢ written (caller_of t) → t.depth ≡ 0)
Presumes (MutexPost m) t = (t.running ≢ 0) × (m < mutex_count) × ((mutex_of t m).used ≡ 1) × ((mutex_of t m).holder ≡ written (caller_of t))
Presumes (MutexAbort m) t = MayAbort mutexes m t
Presumes (GroupCreate g flags) t = MayCreate groups g t
Presumes (GroupDelete g force) t = g < group_count
Presumes (GroupWait g block limit mask test consume) t =
    (t.running ≢ 0) × (g < group_count) × ((group_of t g).used ≡ 1) × (mask ≢ 0) × (test < test_count) × (consume ≤ 1)
    × (is_met (flags_of t g) (asking mask test consume) ≢ true → t.depth ≡ 0)
Presumes (GroupPost g mask on) t = (g < group_count) × ((group_of t g).used ≡ 1)
Presumes (GroupAbort g) t = MayAbort groups g t
Presumes (ChannelCreate c capacity) t = MayCreate channels c t × (capacity ≢ 0) × (capacity ≤ most_messages)
Presumes (ChannelDelete c force) t = c < channel_count
Presumes (ChannelWait c block limit) t = (t.running ≢ 0) × (c < channel_count) × ((channel_of t c).used ≡ 1) × ((channel_of t c).held ≡ 0 → t.depth ≡ 0)
Presumes (ChannelPost c message front) t = (c < channel_count) × ((channel_of t c).used ≡ 1) × ((channel_of t c).held < (channel_of t c).capacity) × (front ≤ 1)
Presumes (ChannelAbort c) t = MayAbort channels c t
Presumes (ChannelFlush c) t = (c < channel_count) × ((channel_of t c).used ≡ 1)

-- ---- tests

is_false : (b : Bool) → Decides (not b) (b ≡ false)
is_false true = record { holds = λ e. absurd (false≢true e); passes = λ e. sym e }
is_false false = record { holds = λ e. refl; passes = λ e. refl }

-- An interrupt's call that is not for interrupts.
pub interrupted : (interrupt : Bool) (c : Call) → Decides (interrupt && not (for_interrupts c)) ((interrupt ≡ true) × (for_interrupts c ≡ false))
interrupted interrupt c = both itself (is_false (for_interrupts c))

-- Not, twice over.
pub not_not : {b : Bool} {B : Type 0} → Decides b B → Decides (not (not b)) B
not_not {b} {B} d = go b d
  where
    go : (b : Bool) → Decides b B → Decides (not (not b)) B
    go true d = d
    go false d = d

-- A base priority or a quantum that is too great.
pub too_great : (base quantum : ℕ) → Decides (ltb last_priority base || ltb most_quantum quantum) ((last_priority < base) ⊎ (most_quantum < quantum))
too_great base quantum = either at_most at_most

-- A default that is no quantum.
pub no_quantum : (n : ℕ) → Decides (eqb n 0 || ltb most_quantum n) ((n ≡ 0) ⊎ (most_quantum < n))
no_quantum n = either equals at_most

-- "a mask of 0 or a fifth test"
pub wrongly : (mask test : ℕ) → Decides (eqb mask 0 || leb test_count test) ((mask ≡ 0) ⊎ (test_count ≤ test))
wrongly mask test = either equals at_most

-- "capacity 0 or above 32"
pub no_capacity : (n : ℕ) → Decides (eqb n 0 || ltb most_messages n) ((n ≡ 0) ⊎ (most_messages < n))
no_capacity n = either equals at_most

-- The create of a channel tests its number, and then the capacity.
pub channel-create_is : (c capacity : ℕ) (t : Table)
    → channel.create_answer c capacity t ≡ cond (leb channel_count c) beyond_range (cond (is_used (channel_of t c).used) in_use (right_capacity capacity done))
unfolding channel.create_answer object_create_answer
channel-create_is c capacity t = go (leb channel_count c) (is_used (channel_of t c).used) (right_capacity capacity done)
  where
    go : (is_beyond is_there : Bool) (n : ℕ)
        → cond (eqb (cond is_beyond beyond_range (cond is_there in_use done)) done) n (cond is_beyond beyond_range (cond is_there in_use done)) ≡ cond is_beyond beyond_range (cond is_there in_use n)
    go true is_there n = refl
    go false true n = refl
    go false false n = refl

-- The scheduler is locked.
pub locked : (t : Table) → Decides (is_locked t) (t.depth ≢ 0)
locked t = fails equals

-- Task i runs, and the scheduler is locked.
pub runs-locked : (i : ℕ) (t : Table) → Decides (is_locked t && is_running i t) ((t.depth ≢ 0) × (t.running ≡ written i))
runs-locked i t = both (locked t) equals

-- ---- the answer of a call

-- A number of the list that refuses a call on a sound table: it changes nothing, and is not 15.
abbrev refuses : ℕ → Bool
refuses n = leb (rank n) (rank done) && (not (eqb n not_sound) && not (changes n))

-- A call is answered n: the condition of n holds, n is a number of the list and not 15, and where n changes anything the call is accepted.
pub record Answers (interrupt : Bool) (t : Table) (c : Call) (n : ℕ) : Type 0 where
  pub why : Gets interrupt t n c
  pub listed : rank n ≤ rank done
  pub served : n ≢ not_sound
  pub holds : changes n ≡ true → Presumes c t

module _ {interrupt : Bool} {t : Table} {c : Call} where
  -- A refusal changes nothing.
  refused : {n : ℕ} → refuses n ≡ true → Gets interrupt t n c → Answers interrupt t c n
  refused e g = let (l, d) = (both at_most (both (fails equals) (fails itself))).holds e in record { why = g; listed = l; served = d.0; holds = λ h. absurd (d.1 h) }

  accept : Presumes c t → Answers interrupt t c done
  accept p = record { why = accepted; listed = omega arith; served = λ e. omega arith; holds = λ e. p }

  -- One answer or another, as the test decides.
  branch : {b : Bool} {m n : ℕ} {B : Type 0} → Decides b B → (B → Answers interrupt t c m) → ((B → ⊥) → Answers interrupt t c n) → Answers interrupt t c (cond b m n)
  branch = pick (Answers interrupt t c)

  -- Past a refusal its test has failed.
  past : {b : Bool} {m n : ℕ} {B : Type 0} → Decides b B → refuses m ≡ true → (B → Gets interrupt t m c) → ((B → ⊥) → Answers interrupt t c n)
      → Answers interrupt t c (cond b m n)
  past d e row on = branch d (λ h. refused e (row h)) on

  unless : {b : Bool} {m n : ℕ} {B : Type 0} → Decides b B → refuses m ≡ true → ((B → ⊥) → Gets interrupt t m c) → (B → Answers interrupt t c n)
      → Answers interrupt t c (cond (not b) m n)
  unless d e row on = pick_not (Answers interrupt t c) d (λ h. refused e (row h)) on

  -- A thing that is to be in use, or that is to be created.
  on_it : {x : Thing} {n : ℕ} → On c x → (number_of x < count_of x → used_in t x ≡ 1 → Answers interrupt t c n) → Answers interrupt t c (on_object (count_of x) (number_of x) (used_in t x) n)
  unfolding rank paper_order first_at
  on_it {x} o on = past at_most refl (beyond (inl o)) λ (r : count_of x ≤ number_of x → ⊥). unless equals refl (unused o) λ u. on (omega arith) u

  new_one : {x : Thing} {n : ℕ} → Creates c x → (number_of x < count_of x → used_in t x ≢ 1 → Answers interrupt t c n)
      → Answers interrupt t c (cond (leb (count_of x) (number_of x)) beyond_range (cond (is_used (used_in t x)) in_use n))
  unfolding rank paper_order first_at
  new_one {x} o on = past at_most refl (beyond (inr o)) λ (r : count_of x ≤ number_of x → ⊥). past equals refl (used o) λ u. on (omega arith) u

  -- A wait that finds nothing to take.
  finds_nothing : {block : ℕ} → FindsNothing t block c → (t.depth ≡ 0 → Presumes c t) → Answers interrupt t c (block_answer block t)
  unfolding rank paper_order first_at
  finds_nothing f p = past equals refl (non_blocking f) λ b. unless equals refl (λ d. locked_wait d f) λ z. record { why = waits f; listed = at_most.holds refl; served = λ e. omega arith; holds = λ e. p z }

  -- ---- the calls that every family has

  create-answers : {f : Family} {o : ℕ} → Creates c (object f o) → (MayCreate f o t → Presumes c t) → Answers interrupt t c (object_create_answer f o t)
  unfolding count_of number_of used_in object_create_answer
  create-answers {f} {o} x p = new_one {x = object f o} x λ l u. accept (p (l, u))

  delete-answers : {f : Family} {o force : ℕ} → Deletes c f o force → (o < f.count → Presumes c t) → Answers interrupt t c (object_delete_answer f o force t)
  unfolding rank paper_order first_at count_of number_of used_in object_delete_answer
  delete-answers {f} {o} {force} d p =
      on_it {x = object f o} (to_delete d) λ l u. past at_most refl (bad_force d) λ n. past (both equals (fails equals)) refl (λ h. has_waiters d h.0 h.1) λ n. accept (p l)

  abort-answers : {f : Family} {o : ℕ} → Aborts c f o → (MayAbort f o t → Presumes c t) → Answers interrupt t c (object_abort_answer f o t)
  unfolding rank paper_order first_at count_of number_of used_in object_abort_answer
  abort-answers {f} {o} a p = on_it {x = object f o} (to_abort a) λ l u. past (not_not equals) refl (unawaited a) λ d. accept (p (l, d))

  wait-answers : {f : Family} {o block n : ℕ} → AsksFor c f o block → (t.running ≢ 0 → o < f.count → f.used t o ≡ 1 → Answers interrupt t c n) → Answers interrupt t c (wait_answer_on f o block n t)
  unfolding rank paper_order first_at count_of number_of used_in
  wait-answers {f} {o} w on = past equals refl (wait_by_none w) λ c. on_it {x = object f o} (to_ask w) λ l u. past at_most refl (bad_block w) λ b. on c l u

module _ (interrupt : Bool) (t : Table) where
  -- Each call made by a task.
  pub answers : (c : Call) → Answers interrupt t c (answer_to c t)
  unfolding rank paper_order first_at count_of number_of used_in answer_to create_answer delete_answer priority_answer suspend_answer resume_answer yield_answer delay_answer delay_resume_answer lock_answer unlock_answer default_answer semaphore.wait_answer semaphore.post_answer mutex.wait_answer mutex.post_answer group.wait_answer group.post_answer channel.wait_answer channel.post_answer channel.flush_answer
  answers (TaskCreate i base quantum) =
      new_one (a_task {i = i}) λ l u.
      past (too_great base quantum) refl (⊎_elim create_base create_quantum) λ v.
      let b : last_priority < base → ⊥ = λ x. v (inl x) in
      let q : most_quantum < quantum → ⊥ = λ x. v (inr x) in
      accept (l, u, omega arith, omega arith)
  answers (TaskDelete i) =
      on_it (task_delete {i = i}) λ l u.
      past (runs-locked i t) refl (λ h. locked_delete h.0 h.1) λ other.
      past (holding i t) refl holder λ none.
      accept (l, u, (λ d e. other (d, e)), none)
  answers (ChangePriority i base) = on_it (change_priority {i = i}) λ l u. past at_most refl change_base λ (b : last_priority < base → ⊥). accept (l, u, omega arith)
  answers (Suspend i) =
      on_it (suspend {i = i}) λ l u.
      past (runs-locked i t) refl (λ h. locked_suspend h.0 h.1) λ other.
      past at_most refl nested_suspend λ (n : most_nested ≤ (task_of t i).suspend → ⊥).
      accept (l, u, (λ d e. other (d, e)), omega arith)
  answers (Resume i) = on_it (resume {i = i}) λ l u. past equals refl unsuspended λ n. accept (l, u, n)
  answers Yield =
      past equals refl yield_by_none λ c.
      unless equals refl locked_yield λ z.
      unless (peer (caller_of t) t) refl alone λ p.
      accept (c, z, (peer (caller_of t) t).passes p)
  answers (Delay n) = past equals refl delay_by_none λ c. past equals refl no_ticks λ d. unless equals refl locked_delay λ z. accept (c, d, z)
  answers (DelayResume i) = on_it (delay_resume {i = i}) λ l u. unless equals refl undelayed λ e. accept (l, u, e)
  answers Lock = past at_most refl nested_lock λ (n : most_nested ≤ t.depth → ⊥). accept (omega arith)
  answers Unlock = past equals refl unlocked λ d. accept d
  answers Tick = accept tt
  answers (SetDefaultQuantum n) =
      past (no_quantum n) refl (⊎_elim default_zero default_above) λ v.
      let q : most_quantum < n → ⊥ = λ x. v (inr x) in
      accept ((λ z. v (inl z)), omega arith)
  answers (SemaphoreCreate s n) = create-answers a_semaphore λ p. p
  answers (SemaphoreDelete s force) = delete-answers semaphore_delete λ l. l
  answers (SemaphoreWait s block limit) =
      wait-answers semaphore_wait λ c l u.
      branch at_most (λ (n : 1 ≤ (semaphore_of t s).count). accept (c, l, u, λ z. absurd (omega arith))) λ (n : 1 ≤ (semaphore_of t s).count → ⊥).
      finds_nothing (counted (omega arith)) λ z. (c, l, u, λ e. z)
  answers (SemaphorePost s) = on_it (semaphore_post {s = s}) λ l u. past at_most refl full λ (n : most_count ≤ (semaphore_of t s).count → ⊥). accept (l, u, omega arith)
  answers (SemaphoreAbort s) = abort-answers semaphore_abort λ p. p
  answers (MutexCreate m) = create-answers a_mutex λ p. p
  answers (MutexDelete m force) = delete-answers mutex_delete λ l. l
  answers (MutexWait m block limit) =
      wait-answers mutex_wait λ c l u.
      branch (not_not equals) (λ (free : (mutex_of t m).holder ≡ 0). accept (c, l, u, (λ e. absurd (omega arith)), λ d. absurd (d free))) λ d.
      branch equals (λ own. past at_most refl (nested_mutex own) λ (n : most_nested ≤ (mutex_of t m).nesting → ⊥). accept (c, l, u, (λ e. omega arith), λ d e. absurd (e own))) λ other.
      finds_nothing (held d other) λ z. (c, l, u, (λ e. absurd (other e)), λ d e. z)
  answers (MutexPost m) = past equals refl mutex_post_by_none λ c. on_it (mutex_post {m = m}) λ l u. unless equals refl foreign λ own. accept (c, l, u, own)
  answers (MutexAbort m) = abort-answers mutex_abort λ p. p
  answers (GroupCreate g flags) = create-answers a_group λ p. p
  answers (GroupDelete g force) = delete-answers group_delete λ l. l
  answers (GroupWait g block limit mask test consume) =
      wait-answers group_wait λ c l u.
      past (wrongly mask test) refl (⊎_elim wait_no_mask fifth_test) λ v.
      past at_most refl bad_consume λ (w : 1 < consume → ⊥).
      let fits : test_count ≤ test → ⊥ = λ x. v (inr x) in
      branch itself (λ met. accept (c, l, u, (λ z. v (inl z)), omega arith, omega arith, λ n. absurd (n met))) λ n.
      finds_nothing (unmet n) λ z. (c, l, u, (λ e. v (inl e)), omega arith, omega arith, λ e. z)
  answers (GroupPost g mask on) = on_it (group_post {g = g}) λ l u. past equals refl post_no_mask λ m. past at_most refl bad_on λ n. accept (l, u)
  answers (GroupAbort g) = abort-answers group_abort λ p. p
  answers (ChannelCreate c capacity) =
      rw (channel-create_is c capacity t)
      (new_one (a_channel {o = c}) λ l u.
      past (no_capacity capacity) refl bad_capacity λ v.
      let most : most_messages < capacity → ⊥ = λ x. v (inr x) in
      accept ((l, u), (λ z. v (inl z)), omega arith))
  answers (ChannelDelete c force) = delete-answers channel_delete λ l. l
  answers (ChannelWait c block limit) =
      wait-answers channel_wait λ r l u.
      branch at_most (λ (n : 1 ≤ (channel_of t c).held). accept (r, l, u, λ z. absurd (omega arith))) λ (n : 1 ≤ (channel_of t c).held → ⊥).
      finds_nothing (no_message (omega arith)) λ z. (r, l, u, λ e. z)
  answers (ChannelPost c message front) =
      on_it (channel_post {o = c}) λ l u.
      past at_most refl bad_front λ (f : 1 < front → ⊥).
      past at_most refl no_room λ (n : (channel_of t c).capacity ≤ (channel_of t c).held → ⊥).
      accept (l, u, omega arith, omega arith)
  answers (ChannelAbort c) = abort-answers channel_abort λ p. p
  answers (ChannelFlush c) = on_it (channel_flush {o = c}) λ l u. accept (l, u)

-- Each call, whoever made it.
pub accepts : (c : Call) (interrupt : Bool) (t : Table) → Answers interrupt t c (answer c interrupt t)
unfolding rank paper_order first_at answer
accepts c interrupt t = past (interrupted interrupt c) refl (λ h. interrupts h.0 h.1) λ n. answers interrupt t c
