-- The calls with walks that stop early in place of walks, as code makes them on any image. On a sound table without rings they change what the calls
-- of the rules change.
use Rattle.std.specs.Prelude.{◌≡◌, ◌≢◌, Bool, true, false, not, ℕ, zero, suc, ◌+◌, ◌-◌, ◌%◌, ◌≤◌, ◌<◌, eqb, ltb}
use Rattle.std.proofs.Math.Path.{refl, sym, ap}
use Rattle.std.proofs.Common.{◌∙◌, ⊎_elim, arith}
use Rattle.std.proofs.Math.Bool.{cond}
use Rattle.std.specs.Int.Bits.{bit_or}
use Rattle.std.proofs.lemmas.Bool.{eqb-false}
use Rattle.rules.specs.Sizes.{task_count, mutex_count, group_count, ticks_round, delayed, waits_mutex, given, timed_out, aborted, object_deleted}
use Rattle.rules.specs.Afresh.{lt_or_le}
use Rattle.rules.specs.Table.{Table, Asked, nothing_asked, task_of, semaphore_of, mutex_of, holder_of, queue_count, able_queue, semaphore_queue, mutex_queue, group_queue, channel_queue, slot_in, first_in, written, no_task, asked_by, with_base, with_tick}
use Rattle.rules.specs.Family.{Family, semaphores, mutexes, groups, channels, waiters_of}
use Rattle.rules.specs.Messages.{present, holding}
use Rattle.rules.specs.Move.{put, next, fresh_in, walk, away, ready, ended, ended_all}
use Rattle.rules.specs.Task.{delete, change_priority}
use Rattle.rules.specs.Time.{caller_of, delay_resume}
use Rattle.rules.specs.Object.{has_waiter, blocked, waits, taken, abort, emptied, object_abort, object_delete}
use Rattle.rules.specs.Semaphore.{with_count_of}
use Rattle.rules.specs.Semaphore as semaphore
use Rattle.rules.specs.Mutex.{is_held, is_own, with_hold_of, handed, released}
use Rattle.rules.specs.Mutex as mutex
use Rattle.rules.specs.Group.{is_met, consumed, turned_over, posted, flags_of, with_flags_of, woken}
use Rattle.rules.specs.Group as group
use Rattle.rules.specs.Channel.{delivered, with_posted}
use Rattle.rules.specs.Channel as channel
use Rattle.rules.specs.Tick.{turned, is_due, due_ended, due_below, ticked}
use Rattle.rules.specs.Sound.{Each, WorkedOut, Sound, SoundWithin}
use Rattle.rules.specs.Step.{change_by}
use Rattle.rules.specs.declared.Call.{Call}
use Rattle.rules.specs.declared.Call.TheVariants.{TaskCreate, TaskDelete, ChangePriority, Suspend, Resume, Yield, Delay, DelayResume, Lock, Unlock, Tick, SetDefaultQuantum, SemaphoreCreate, SemaphoreDelete, SemaphoreWait, SemaphorePost, SemaphoreAbort, MutexCreate, MutexDelete, MutexWait, MutexPost, MutexAbort, GroupCreate, GroupDelete, GroupWait, GroupPost, GroupAbort, ChannelCreate, ChannelDelete, ChannelWait, ChannelPost, ChannelAbort, ChannelFlush}
use Rattle.laws.specs.queues.Put.{sized}
use Rattle.laws.specs.queues.Rows.{first_queue, last_queue}
use Rattle.laws.specs.chains.Graph.{ends-sized, holder-written, alike-worked}
use Rattle.laws.specs.keeps.Running.{caller-able}
use Rattle.laws.specs.keeps.Moves.{Midway, BeforeChoice, ended_keeps}
use Rattle.laws.specs.keeps.Ending.{slot-waiter, first_waiter, emptied_all, dues_keep, turned_keeps, counted_keeps}
use Rattle.laws.specs.keeps.Families.{Lawful, semaphores_lawful, mutexes_lawful, groups_lawful, channels_lawful, waiter_of}
use Rattle.laws.specs.keeps.Caller.{midway, caller-task, runs-able}
use Rattle.laws.specs.numbers.Presumes.{Presumes}
use Rattle.laws.specs.local.Cheap.{walk-idle}
use Rattle.laws.specs.local.Table.{Sized, work_of, rise, fall, store, settled-ready, firsts}
use Rattle.laws.specs.local.Walk.{most, wait-rise, away-fall, base-fall, free-fall, gone-fall}
use Rattle.laws.specs.local.Keeps.{Fine, ended_fine, due_below_fine, turned_fine, frame_fine, ClosesRing}

-- ---- the same, with walks that stop early

unfoldable pub ended_locally : (outcome i : ℕ) → Table → Table
ended_locally outcome i t =
    let left = put i (away (task_of t i)) t in
    let settled = fall most (next t i) left in
    put i (ready outcome (task_of settled i)) settled

unfoldable pub ended_all_locally : (n outcome q : ℕ) → Table → Table
ended_all_locally zero outcome q t = t
ended_all_locally (suc n) outcome q t =
    let others = ended_all_locally n outcome q (ended_locally outcome (first_in q t - 1) t) in
    cond (eqb (first_in q t) 0) t others

unfoldable pub due_ended_locally : ℕ → Table → Table
due_ended_locally i t =
    let over = ended_locally (cond (eqb (task_of t i).state delayed) given timed_out) i t in
    cond (is_due i t) over t

unfoldable pub due_below_locally : ℕ → Table → Table
due_below_locally zero t = t
due_below_locally (suc n) t = due_ended_locally n (due_below_locally n t)

-- Who waits for a mutex is as urgent as the chain from its holder becomes.
unfoldable pub waits_locally : Family → (o limit : ℕ) → Asked → Table → Table
waits_locally f o limit a t = rise (work_of t (caller_of t)) most (f.holder t o) (blocked f.state o limit a t)

unfoldable pub abort_locally : Family → ℕ → Table → Table
abort_locally f o t = ended_locally aborted (first_in (waiters_of f o) t - 1) t

-- The last waiter has moved the chain from the holder.
unfoldable pub delete_locally : Family → ℕ → Table → Table
delete_locally f o t = f.gone o (ended_all_locally task_count object_deleted (waiters_of f o) t)

unfoldable pub released_locally : ℕ → Table → Table
released_locally m t =
    let free = fall most (caller_of t) (with_hold_of m 0 0 t) in
    handed m (first_in (mutex_queue m) free) free

unfoldable pub woken_locally : (n g flags k together : ℕ) → Table → Table
woken_locally zero g flags k together t = with_flags_of g (turned_over together flags) t
woken_locally (suc n) g flags k together t =
    let waiter = slot_in (group_queue g) k t in
    let asked = asked_by (task_of t (waiter - 1)) in
    let wakes = is_met flags asked in
    let over = with_flags_of g (turned_over together flags) t in
    let others = woken_locally n g flags (cond wakes k (k + 1)) (cond wakes (bit_or together (consumed flags asked)) together) (cond wakes (ended_locally given (waiter - 1) t) t) in
    cond (eqb waiter 0) over others

-- ---- waits that end

module _ {t : Table} (h : SoundWithin t) (f : Fine t) where
  pub ended_same : (outcome i : ℕ) → i < task_count → ended_locally outcome i t ≡ ended outcome i t
  unfolding ended_locally ended
  ended_same outcome i l = ap (λ (u : Table). put i (ready outcome (task_of u i)) u) (away-fall h f.free i l)

  pub released_same : (m : ℕ) → m < mutex_count → (mutex_of t m).holder ≡ written (caller_of t) → released_locally m t ≡ released m t
  unfolding released_locally released
  released_same m l own = ap (λ (u : Table). handed m (first_in (mutex_queue m) u) u) (free-fall h f.free m (caller_of t) l own)

  due_same : (i : ℕ) → i < task_count → due_ended_locally i t ≡ due_ended i t
  unfolding due_ended_locally due_ended
  due_same i l = ap (λ (u : Table). cond (is_due i t) u t) (ended_same (cond (eqb (task_of t i).state delayed) given timed_out) i l)

pub ended_all_same : (n outcome q : ℕ) → outcome ≤ object_deleted → q < queue_count → q ≢ able_queue → {t : Table} → BeforeChoice t → Fine t
    → ended_all_locally n outcome q t ≡ ended_all n outcome q t
unfolding ended_all_locally ended_all
ended_all_same zero outcome q o l d u f = refl
ended_all_same (suc n) outcome q o l d {t} u f = go (eqb (first_in q t) 0) refl (ended_all_same n outcome q o l d)
  where
    v : ℕ
    v = first_in q t - 1

    go : (b : Bool) → eqb (first_in q t) 0 ≡ b → (BeforeChoice (ended outcome v t) → Fine (ended outcome v t) → ended_all_locally n outcome q (ended outcome v t) ≡ ended_all n outcome q (ended outcome v t))
        → cond b t (ended_all_locally n outcome q (ended_locally outcome v t)) ≡ cond b t (ended_all n outcome q (ended outcome v t))
    go true e rest = refl
    go false e rest =
        let w = first_waiter u.settled q l d (eqb-false _ _ e) in
        ap (ended_all_locally n outcome q) (ended_same u.settled f outcome v w.task) ∙ rest (ended_keeps u w outcome o) (ended_fine outcome v f)

pub woken_same : (n g flags k together : ℕ) → g < group_count → {t : Table} → BeforeChoice t → Fine t → woken_locally n g flags k together t ≡ woken n g flags k together t
unfolding woken_locally woken
woken_same zero g flags k together l u f = refl
woken_same (suc n) g flags k together l {t} u f = go (eqb v 0) refl (is_met flags a) (λ m x y b c. woken_same n g flags m x l {t = y} b c)
  where
    v : ℕ
    v = slot_in (group_queue g) k t

    a : Asked
    a = asked_by (task_of t (v - 1))

    over : Table
    over = with_flags_of g (turned_over together flags) t

    go : (b : Bool) → eqb v 0 ≡ b → (c : Bool) → ((m x : ℕ) (t : Table) → BeforeChoice t → Fine t → woken_locally n g flags m x t ≡ woken n g flags m x t)
        → cond b over (woken_locally n g flags (cond c k (k + 1)) (cond c (bit_or together (consumed flags a)) together) (cond c (ended_locally given (v - 1) t) t))
        ≡ cond b over (woken n g flags (cond c k (k + 1)) (cond c (bit_or together (consumed flags a)) together) (cond c (ended given (v - 1) t) t))
    go true e c rest = refl
    go false e false rest = rest (k + 1) together t u f
    go false e true rest =
        let w = slot-waiter u.settled (group_queue g) (omega arith) (λ z. omega arith) k (eqb-false _ _ e) in
        ap (woken_locally n g flags k (bit_or together (consumed flags a))) (ended_same u.settled f given (v - 1) w.task)
        ∙ rest k (bit_or together (consumed flags a)) (ended given (v - 1) t) (ended_keeps u w given (omega arith)) (ended_fine given (v - 1) f)

dues_same : (n : ℕ) → n ≤ task_count → {t : Table} → Midway 0 t → Fine t → due_below_locally n t ≡ due_below n t
unfolding due_below_locally due_below
dues_same zero l u f = refl
dues_same (suc n) l u f =
    ap (due_ended_locally n) (dues_same n (omega arith) u f) ∙ due_same (dues_keep n (omega arith) u).settled (due_below_fine n f) n l

-- ---- each call

-- Where each number is worked out, no walk changes one.
idle : {u : Table} → Sized u → WorkedOut u → (i : ℕ) → walk i u ≡ u
unfolding fresh_in
idle {u} z w i = walk-idle store task_count i u z (ends-sized u z) w

module _ {t : Table} (s : Sound t) (f : Fine t) where
  h : SoundWithin t
  h = s.settled

  whole : BeforeChoice t
  whole = midway s

  abort_same : {k : Family} → Lawful k → (o : ℕ) → o < k.count → first_in (waiters_of k o) t ≢ 0 → abort_locally k o t ≡ object_abort k o t
  unfolding abort_locally object_abort abort
  abort_same {k} law o l some = ended_same h f aborted (first_in (waiters_of k o) t - 1) (waiter_of law h o l some).task

  delete_same : {k : Family} → Lawful k → (o : ℕ) → o < k.count → delete_locally k o t ≡ object_delete k o t
  unfolding delete_locally object_delete
  delete_same {k} law o l =
      let q = waiters_of k o in
      let inside : q < queue_count = omega (arith, last_queue law.among) in
      let apart : q ≢ able_queue = λ z. omega (arith, first_queue law.among) in
      let e = emptied_all q inside apart whole in
      let g = law.goes e.midway.settled o l e.empty in
      let long : Sized (k.gone o (emptied q t)) = rw g.0.tasks (sized e.midway.settled) in
      ap (k.gone o) (ended_all_same task_count object_deleted q (omega arith) inside apart whole f) ∙ sym (idle long (alike-worked g.1 e.midway.settled.worked) (k.holder t o))

-- ---- the calls that walk; the others are those of the rules

unfoldable pub mutex_wait_locally : (m limit : ℕ) → Table → Table
mutex_wait_locally m limit t =
    let takes = taken (with_hold_of m (written (caller_of t)) 1 t) in
    let nests = taken (with_hold_of m (mutex_of t m).holder ((mutex_of t m).nesting + 1) t) in
    let blocks = waits_locally mutexes m limit nothing_asked t in
    cond (not (is_held m t)) takes (cond (is_own m t) nests blocks)

unfoldable pub mutex_post_locally : ℕ → Table → Table
mutex_post_locally m t =
    let keeps = with_hold_of m (mutex_of t m).holder ((mutex_of t m).nesting - 1) t in
    let gone = released_locally m t in
    cond (ltb 1 (mutex_of t m).nesting) keeps gone

unfoldable pub semaphore_post_locally : ℕ → Table → Table
semaphore_post_locally o t =
    let gives = ended_locally given (first_in (semaphore_queue o) t - 1) t in
    let counts = with_count_of o ((semaphore_of t o).count + 1) t in
    cond (has_waiter (semaphore_queue o) t) gives counts

unfoldable pub channel_post_locally : (c v front : ℕ) → Table → Table
channel_post_locally c v front t =
    let waiter = first_in (channel_queue c) t - 1 in
    let gives = delivered waiter v (ended_locally given waiter t) in
    let keeps = holding c (with_posted front v (present t c)) t in
    cond (has_waiter (channel_queue c) t) gives keeps

unfoldable pub change_locally : Call → Table → Table
change_locally (TaskDelete i) t = fall most (next t i) (put i no_task t)
change_locally (ChangePriority i base) t = fall most i (put i (with_base base (task_of t i)) t)
change_locally (DelayResume i) t = ended_locally given i t
change_locally Tick t = due_below_locally task_count (turned (with_tick ((t.tick + 1) % ticks_round) t))
change_locally (SemaphoreDelete o force) t = delete_locally semaphores o t
change_locally (SemaphorePost o) t = semaphore_post_locally o t
change_locally (SemaphoreAbort o) t = abort_locally semaphores o t
change_locally (MutexDelete m force) t = delete_locally mutexes m t
change_locally (MutexWait m block limit) t = mutex_wait_locally m limit t
change_locally (MutexPost m) t = mutex_post_locally m t
change_locally (MutexAbort m) t = abort_locally mutexes m t
change_locally (GroupDelete g force) t = delete_locally groups g t
change_locally (GroupPost g mask on) t = woken_locally task_count g (posted mask on (flags_of t g)) 0 0 t
change_locally (GroupAbort g) t = abort_locally groups g t
change_locally (ChannelDelete c force) t = delete_locally channels c t
change_locally (ChannelPost c message front) t = channel_post_locally c message front t
change_locally (ChannelAbort c) t = abort_locally channels c t
change_locally (TaskCreate i base quantum) t = change_by (TaskCreate i base quantum) t
change_locally (Suspend i) t = change_by (Suspend i) t
change_locally (Resume i) t = change_by (Resume i) t
change_locally Yield t = change_by Yield t
change_locally (Delay n) t = change_by (Delay n) t
change_locally Lock t = change_by Lock t
change_locally Unlock t = change_by Unlock t
change_locally (SetDefaultQuantum n) t = change_by (SetDefaultQuantum n) t
change_locally (SemaphoreCreate o n) t = change_by (SemaphoreCreate o n) t
change_locally (SemaphoreWait o block limit) t = change_by (SemaphoreWait o block limit) t
change_locally (MutexCreate m) t = change_by (MutexCreate m) t
change_locally (GroupCreate g flags) t = change_by (GroupCreate g flags) t
change_locally (GroupWait g block limit mask test consume) t = change_by (GroupWait g block limit mask test consume) t
change_locally (ChannelCreate c capacity) t = change_by (ChannelCreate c capacity) t
change_locally (ChannelWait c block limit) t = change_by (ChannelWait c block limit) t
change_locally (ChannelFlush c) t = change_by (ChannelFlush c) t

module _ {t : Table} (s : Sound t) (f : Fine t) where
  -- Nobody waits for a task that holds no mutex.
  nobody : (i : ℕ) → i < task_count → Each mutex_count (λ m. (mutex_of t m).holder ≢ written i) → (j : ℕ) → next t j ≢ i
  nobody i l none j e =
      ⊎_elim
      (λ k. let (o, q) = (firsts (settled-ready s.settled)).held j k (omega arith) in none (task_of t j).object o (holder-written t (task_of t j).object i l (sym q ∙ e)))
      (λ out. omega (arith, ends-sized t f.size j out))
      (lt_or_le j task_count)

  mutex_wait_same : (m limit : ℕ) → m < mutex_count → t.running ≢ 0 → ¬ ClosesRing t m → mutex_wait_locally m limit t ≡ mutex.wait m limit t
  unfolding mutex_wait_locally mutex.wait waits_locally waits
  mutex_wait_same m limit l c ok = go (eqb (mutex_of t m).holder 0) refl (eqb (mutex_of t m).holder (written (caller_of t))) refl
    where
      first : Table
      first = taken (with_hold_of m (written (caller_of t)) 1 t)

      again : Table
      again = taken (with_hold_of m (mutex_of t m).holder ((mutex_of t m).nesting + 1) t)

      go : (a : Bool) → eqb (mutex_of t m).holder 0 ≡ a → (b : Bool) → eqb (mutex_of t m).holder (written (caller_of t)) ≡ b
          → cond (not (not a)) first (cond b again (rise (work_of t (caller_of t)) most (holder_of t m) (blocked waits_mutex m limit nothing_asked t)))
          ≡ cond (not (not a)) first (cond b again (walk (holder_of t m) (blocked waits_mutex m limit nothing_asked t)))
      go true e b q = refl
      go false e true q = refl
      go false e false q = wait-rise s.settled f.free m limit l (caller-task s) (runs-able s c) (λ chain. ok (eqb-false _ _ e, eqb-false _ _ q, chain))

  mutex_post_same : (m : ℕ) → m < mutex_count → (mutex_of t m).holder ≡ written (caller_of t) → mutex_post_locally m t ≡ mutex.post m t
  unfolding mutex_post_locally mutex.post
  mutex_post_same m l own =
      ap (cond (ltb 1 (mutex_of t m).nesting) (with_hold_of m (mutex_of t m).holder ((mutex_of t m).nesting - 1) t)) (released_same s.settled f m l own)

  -- Whatever is made of the table where the first of a queue is given what it waits for.
  given_same : (q : ℕ) → q < queue_count → q ≢ able_queue → (g : Table → Table) (other : Table)
      → cond (has_waiter q t) (g (ended_locally given (first_in q t - 1) t)) other ≡ cond (has_waiter q t) (g (ended given (first_in q t - 1) t)) other
  given_same q l d g other = go (eqb (first_in q t) 0) refl
    where
      v : ℕ
      v = first_in q t - 1

      go : (b : Bool) → eqb (first_in q t) 0 ≡ b → cond (not b) (g (ended_locally given v t)) other ≡ cond (not b) (g (ended given v t)) other
      go true e = refl
      go false e = ap g (ended_same s.settled f given v (first_waiter s.settled q l d (eqb-false _ _ e)).task)

  tick_same : due_below_locally task_count (turned (with_tick ((t.tick + 1) % ticks_round) t)) ≡ ticked t
  unfolding ticked
  tick_same = dues_same task_count (omega arith) (turned_keeps (counted_keeps s) (caller-task s) (caller-able s.settled.queued s.runs)) (turned_fine (frame_fine {t = t} refl refl f))

  -- On a sound table without rings the calls that stop early do what the rules say.
  pub change_same : (c : Call) → Presumes c t → ((m block limit : ℕ) → c ≡ MutexWait m block limit → ¬ ClosesRing t m) → change_locally c t ≡ change_by c t
  unfolding change_locally change_by delete change_priority delay_resume semaphore_post_locally semaphore.post channel_post_locally channel.post group.post
  change_same (TaskDelete i) (l, u, other, none) ok =
      gone-fall s.settled f.free i l (nobody i l (λ m n e. none (record { mutex = m; range = n; holder = e })))
  change_same (ChangePriority i base) (l, u, p) ok = base-fall s.settled f.free i base l
  change_same (DelayResume i) (l, u, e) ok = ended_same s.settled f given i l
  change_same Tick a ok = tick_same
  change_same (SemaphoreDelete o force) l ok = delete_same s f semaphores_lawful o l
  change_same (SemaphorePost o) (l, u, n) ok = given_same (semaphore_queue o) (omega arith) (λ z. omega arith) (λ u. u) _
  change_same (SemaphoreAbort o) (l, some) ok = abort_same s f semaphores_lawful o l some
  change_same (MutexDelete m force) l ok = delete_same s f mutexes_lawful m l
  change_same (MutexWait m block limit) a ok = mutex_wait_same m limit a.1 a.0 (ok m block limit refl)
  change_same (MutexPost m) (c, l, u, own) ok = mutex_post_same m l own
  change_same (MutexAbort m) (l, some) ok = abort_same s f mutexes_lawful m l some
  change_same (GroupDelete g force) l ok = delete_same s f groups_lawful g l
  change_same (GroupPost g mask on) (l, u) ok = woken_same task_count g (posted mask on (flags_of t g)) 0 0 l (midway s) f
  change_same (GroupAbort g) (l, some) ok = abort_same s f groups_lawful g l some
  change_same (ChannelDelete c force) l ok = delete_same s f channels_lawful c l
  change_same (ChannelPost c message front) (l, u, room, byte) ok =
      given_same (channel_queue c) (omega arith) (λ z. omega arith) (delivered (first_in (channel_queue c) t - 1) message) (holding c (with_posted front message (present t c)) t)
  change_same (ChannelAbort c) (l, some) ok = abort_same s f channels_lawful c l some
  change_same (TaskCreate i base quantum) a ok = refl
  change_same (Suspend i) a ok = refl
  change_same (Resume i) a ok = refl
  change_same Yield a ok = refl
  change_same (Delay n) a ok = refl
  change_same Lock a ok = refl
  change_same Unlock a ok = refl
  change_same (SetDefaultQuantum n) a ok = refl
  change_same (SemaphoreCreate o n) a ok = refl
  change_same (SemaphoreWait o block limit) a ok = refl
  change_same (MutexCreate m) a ok = refl
  change_same (GroupCreate g flags) a ok = refl
  change_same (GroupWait g block limit mask test consume) a ok = refl
  change_same (ChannelCreate c capacity) a ok = refl
  change_same (ChannelWait c block limit) a ok = refl
  change_same (ChannelFlush c) a ok = refl
