-- No rings as a standing rule: each call keeps it, if a mutex wait that closes a ring is refused.
use Rattle.std.specs.Prelude.{◌≡◌, ◌⊎◌, ◌≢◌, Bool, true, false, cond, not, ◌&&◌, ℕ, zero, suc, ◌+◌, ◌-◌, ◌≤◌, ◌<◌, eqb, ltb, drop}
use Rattle.std.proofs.Math.Path.{refl, ap, fun_ext}
use Rattle.std.proofs.Common.{◌∙◌, inl, inr, ⊎_elim, arith, get_or-set_same}
use mathlib.Core.List.{List, []}
use Rattle.std.specs.Int.Bits.{bit_or}
use Rattle.std.proofs.Math.ListN.{length, get_or}
use Rattle.std.proofs.lemmas.Bool.{eqb-false}
use Rattle.rules.specs.Sizes.{task_count, mutex_count, delayed, waits_mutex, given, timed_out, object_deleted}
use Rattle.rules.specs.Chain.{after, Leads}
use Rattle.rules.specs.Afresh.{lt_or_le}
use Rattle.rules.specs.Table.{Table, Asked, nothing_asked, fresh_table, task_of, semaphore_of, mutex_of, holder_of, group_queue, mutex_queue, semaphore_queue, channel_queue, slot_in, first_in, written, no_task, no_mutex, held_by, with_hold, with_mutex, with_left, asking, asked_by}
use Rattle.rules.specs.Family.{Family, semaphores, mutexes, groups, channels, waiters_of}
use Rattle.rules.specs.Move.{put, rotate, next, walk, ready, ended, ended_all, chosen, has_peer}
use Rattle.rules.specs.Task.{create, delete, change_priority, suspend, resume}
use Rattle.rules.specs.Time.{caller_of, yield, delay, delay_resume}
use Rattle.rules.specs.Lock.{lock, unlock}
use Rattle.rules.specs.Quantum.{set_default}
use Rattle.rules.specs.Messages.{present, holding}
use Rattle.rules.specs.Object.{has_waiter, blocked, waits, taken, abort, object_abort, emptied, object_delete}
use Rattle.rules.specs.Semaphore as semaphore
use Rattle.rules.specs.Mutex.{with_hold_of, released}
use Rattle.rules.specs.Mutex as mutex
use Rattle.rules.specs.Group.{is_met, consumed, turned_over, posted, flags_of, with_flags_of, woken}
use Rattle.rules.specs.Group as group
use Rattle.rules.specs.Channel.{delivered, with_posted}
use Rattle.rules.specs.Channel as channel
use Rattle.rules.specs.Tick.{turned, is_due, due_ended, due_below, ticked}
use Rattle.rules.specs.Sound.{Sound, SoundWithin}
use Rattle.rules.specs.Step.{change_by}
use Rattle.rules.specs.declared.Task.{Task}
use Rattle.rules.specs.declared.Mutex.{Mutex}
use Rattle.rules.specs.declared.Call.{Call}
use Rattle.rules.specs.declared.Call.TheVariants.{TaskCreate, TaskDelete, ChangePriority, Suspend, Resume, Yield, Delay, DelayResume, Lock, Unlock, Tick, SetDefaultQuantum, SemaphoreCreate, SemaphoreDelete, SemaphoreWait, SemaphorePost, SemaphoreAbort, MutexCreate, MutexDelete, MutexWait, MutexPost, MutexAbort, GroupCreate, GroupDelete, GroupWait, GroupPost, GroupAbort, ChannelCreate, ChannelDelete, ChannelWait, ChannelPost, ChannelAbort, ChannelFlush}
use Rattle.laws.specs.queues.Put.{whichever, whichever₃, Stored, put_out, rotate_out, put-stored, rotate-stored, walk_inv}
use Rattle.laws.specs.queues.Fields.{put-size, walk_rest, walk-size, ended_rest}
use Rattle.laws.specs.queues.Queues.{mutex-queued}
use Rattle.laws.specs.queues.Rows.{among-mutexes}
use Rattle.laws.specs.queues.Stands.{waiter_there, unwaited, no_queue, first_range, first_there}
use Rattle.laws.specs.keeps.Becomes.{freed, given_to, released_one, shorter}
use Rattle.laws.specs.keeps.Caller.{caller-task, runs-able}
use Rattle.laws.specs.chains.Graph.{waits_for, next_is, waits_none, ends-sized, stored-size, stored_next, stored_next_other, stored-nexts, Waits, waits_or, waits_next, waits-task, no_holder, written-holder, mutex_other, unwaited-alike, held-alike, walk_next}
use Rattle.laws.specs.numbers.Presumes.{Presumes}
use Rattle.laws.specs.local.Local.{ringless}
use Rattle.laws.specs.local.Ring.{outs_ringless, ringless-sound, fewer-ringless, handed-ringless}
use Rattle.laws.specs.local.Table.{NoRings, Sized, Ready, settled-ready, ready-put}
use Rattle.laws.specs.local.Walk.{alike-ringless, stored-fewer, unheld-fewer, wait-closes}

pub record Fine (t : Table) : Type 0 where
  pub size : Sized t
  pub free : NoRings t

-- ---- moves

-- The same tasks and mutexes.
frame_next : (t u : Table) → u.tasks ≡ t.tasks → u.mutexes ≡ t.mutexes → (j : ℕ) → next u j ≡ next t j
unfolding next holder_of
frame_next t u e f j = rw (e, f)

pub frame_fine : {t u : Table} → u.tasks ≡ t.tasks → u.mutexes ≡ t.mutexes → Fine t → Fine u
frame_fine {t} {u} e f h = record { size = ap length e ∙ h.size; free = rw (fun_ext (frame_next t u e f)) h.free }

-- The record k waits for no mutex, or as task i does.
abbrev pub Quiet : Table → ℕ → Task → Type 0
Quiet t i k = (k.state ≢ waits_mutex) ⊎ ((k.state ≡ (task_of t i).state) × (k.object ≡ (task_of t i).object))

stored_fine : {t u : Table} (i : ℕ) (k : Task) → i < task_count → Stored i k t u → Quiet t i k → Fine t → Fine u
unfolding waits_for
stored_fine {t} {u} i k l s q h = record { size = stored-size s h.size; free = go q }
  where
    go : Quiet t i k → NoRings u
    go (inl d) = fewer-ringless (ends-sized t h.size) (stored-fewer s l h.size d) h.free
    go (inr (e, o)) = rw (fun_ext (stored-nexts s (rw (next_is t i, e, o)))) h.free

pub put_fine : {t : Table} (i : ℕ) (k : Task) → Quiet t i k → Fine t → Fine (put i k t)
put_fine {t} i k q h = ⊎_elim (λ l. stored_fine i k l (put-stored i k t l) q h) (λ l. rw (put_out i k t l) h) (lt_or_le i task_count)

pub rotate_fine : {t : Table} (i : ℕ) → Fine t → Fine (rotate i t)
rotate_fine {t} i h = ⊎_elim (λ l. stored_fine i _ l (rotate-stored i t l) (inr (refl, refl)) h) (λ l. rw (rotate_out i t l) h) (lt_or_le i task_count)

pub walk_fine : {t : Table} (s : ℕ) → Fine t → Fine (walk s t)
walk_fine {t} s h = record { size = walk-size s t ∙ h.size; free = rw (walk_next s t) h.free }

-- A mutex that no task holds.
unheld_fine : {t : Table} (m : ℕ) (x : Mutex) → m < length t.mutexes → x.holder ≡ 0 → Fine t → Fine (with_mutex m x t)
unheld_fine {t} m x l z h = record { size = h.size; free = fewer-ringless (ends-sized t h.size) (unheld-fewer m x t l z) h.free }

pub ended_fine : {t : Table} (outcome i : ℕ) → Fine t → Fine (ended outcome i t)
unfolding ended
ended_fine {t} outcome i h = put_fine i _ (inl (λ e. omega arith)) (walk_fine (next t i) (put_fine i _ (inl (λ e. omega arith)) h))

pub ended_all_fine : (n outcome q : ℕ) {t : Table} → Fine t → Fine (ended_all n outcome q t)
unfolding ended_all
ended_all_fine zero outcome q h = h
ended_all_fine (suc n) outcome q {t} h = whichever Fine (eqb (first_in q t) 0) h (ended_all_fine n outcome q (ended_fine outcome (first_in q t - 1) h))

pub due_ended_fine : (i : ℕ) {t : Table} → Fine t → Fine (due_ended i t)
unfolding due_ended
due_ended_fine i {t} h = whichever Fine (is_due i t) (ended_fine (cond (eqb (task_of t i).state delayed) given timed_out) i h) h

pub due_below_fine : (n : ℕ) {t : Table} → Fine t → Fine (due_below n t)
unfolding due_below
due_below_fine zero h = h
due_below_fine (suc n) h = due_ended_fine n (due_below_fine n h)

pub turned_fine : {t : Table} → Fine t → Fine (turned t)
unfolding turned
turned_fine {t} h =
    let less : Fine (shorter t) = put_fine (caller_of t) (with_left ((task_of t (caller_of t)).left - 1) (task_of t (caller_of t))) (inr (refl, refl)) h in
    whichever Fine (eqb t.running 0) h
    (whichever Fine (eqb (task_of (shorter t) (caller_of t)).left 0 && (eqb (shorter t).depth 0 && has_peer (caller_of t) (shorter t))) (rotate_fine (caller_of t) less) less)

-- ---- a mutex handed on

hand_fine : {v : Table} (m : ℕ) → Ready v → Fine v → m < mutex_count → (mutex_of v m).holder ≡ 0 → first_in (mutex_queue m) v ≢ 0 → Fine (given_to m (first_in (mutex_queue m) v) v)
hand_fine {v} m r h l free d = record { size = stored-size s h.size; free = handed-ringless (ends-sized v h.size) (ends-sized u (stored-size s h.size)) was none (λ j e. other j e (waits_or v m j)) h.free }
  where
    w : ℕ
    w = first_in (mutex_queue m) v

    i : ℕ
    i = w - 1

    task : i < task_count
    task = omega (arith, first_range r.queued (mutex_queue m) (omega arith))

    holds : Table
    holds = with_hold_of m w 1 v

    u : Table
    u = given_to m w v

    s : Stored i (ready given (task_of v i)) holds u
    s = put-stored i (ready given (task_of v i)) holds task

    waits : Waits v m i
    waits = waiter_there (task_of v i) among-mutexes (r.objects i task) m l (first_there r.queued (mutex_queue m) (omega arith) d)

    was : next v i ≡ task_count
    was = waits_next v m i waits ∙ no_holder v m free

    none : task_count ≤ next u i
    none = omega (arith, stored_next s (omega (arith, task, h.size)), waits_none (holder_of holds) (ready given (task_of v i)) (λ e. omega arith))

    held : holder_of holds m ≡ i
    held = written-holder holds m i (ap (λ (x : Mutex). x.holder) (get_or-set_same v.mutexes m (with_hold w 1 (mutex_of v m)) no_mutex (omega (arith, r.queued.shaped.mutexes))) ∙ omega arith)

    other : (j : ℕ) → j ≢ i → Dec (Waits v m j) → (next u j ≡ next v j) ⊎ ((next v j ≡ task_count) × (next u j ≡ i))
    other j e (yes q) = inr (waits_next v m j q ∙ no_holder v m free, stored_next_other s j e ∙ waits_next holds m j q ∙ held)
    other j e (no q) = inl (stored_next_other s j e ∙ mutex_other m (with_hold w 1 (mutex_of v m)) v j q)

walk-ready : {t : Table} (s : ℕ) → Ready t → Ready (walk s t)
walk-ready s r = walk_inv Ready (λ t i l h. ready-put i _ (h.objects i l) h) s r

released_fine : {t : Table} → SoundWithin t → (m : ℕ) → m < mutex_count → Fine t → Fine (released m t)
released_fine {t} h m l f = released_one Fine m t (λ e. moved) (λ d. hand_fine m (walk-ready (caller_of t) ready_now) moved l unheld d)
  where
    moved : Fine (freed m t)
    moved = walk_fine (caller_of t) (unheld_fine m (with_hold 0 0 (mutex_of t m)) (omega (arith, h.queued.shaped.mutexes)) refl f)

    ready_now : Ready (with_hold_of m 0 0 t)
    ready_now = record { queued = mutex-queued m (with_hold 0 0 (mutex_of t m)) h.queued; objects = (settled-ready h).objects }

    unheld : (mutex_of (freed m t) m).holder ≡ 0
    unheld =
        ap (λ (x : Table). (mutex_of x m).holder) (walk_rest (caller_of t) (with_hold_of m 0 0 t))
        ∙ ap (λ (x : Mutex). x.holder) (get_or-set_same t.mutexes m (with_hold 0 0 (mutex_of t m)) no_mutex (omega (arith, h.queued.shaped.mutexes)))

-- ---- each call

-- Request eight: another task holds mutex m, and a chain leads from it to the caller.
abbrev pub ClosesRing : Table → ℕ → Type 0
ClosesRing t m = ((mutex_of t m).holder ≢ 0) × ((mutex_of t m).holder ≢ written (caller_of t)) × Leads (next t) (holder_of t m) (caller_of t)

-- A wait for something other than a mutex, and the end of a family's object.
quiet-waits : {t : Table} (f : Family) (o limit : ℕ) (a : Asked) → f.state ≢ waits_mutex → Fine t → Fine (waits f o limit a t)
unfolding waits blocked
quiet-waits {t} f o limit a d h = walk_fine (f.holder t o) (put_fine (caller_of t) _ (inl d) h)

emptied_fine : {t : Table} (q : ℕ) → Fine t → Fine (emptied q t)
emptied_fine q h = ended_all_fine task_count object_deleted q h

taken_fine : {t : Table} → Fine t → Fine (taken t)
unfolding taken
taken_fine {t} g = put_fine (caller_of t) _ (inr (refl, refl)) g

delivered_fine : {t : Table} (i v : ℕ) → Fine t → Fine (delivered i v t)
unfolding delivered
delivered_fine i v h = put_fine i _ (inr (refl, refl)) h

holding_fine : {t : Table} (c : ℕ) (l : List ℕ) → Fine t → Fine (holding c l t)
unfolding holding
holding_fine {t} c l h = frame_fine {t = t} refl refl h

flags_fine : {t : Table} (g n : ℕ) → Fine t → Fine (with_flags_of g n t)
flags_fine {t} g n h = frame_fine {t = t} refl refl h

woken_fine : (n g flags k together : ℕ) {t : Table} → Fine t → Fine (woken n g flags k together t)
unfolding woken
woken_fine zero g flags k together h = flags_fine g (turned_over together flags) h
woken_fine (suc n) g flags k together {t} h =
    let i = slot_in (group_queue g) k t - 1 in
    let a = asked_by (task_of t i) in
    whichever Fine (eqb (slot_in (group_queue g) k t) 0)
    (flags_fine g (turned_over together flags) h)
    (whichever₃ (λ k together t. Fine (woken n g flags k together t)) (is_met flags a)
    (woken_fine n g flags k (bit_or together (consumed flags a)) (ended_fine given i h))
    (woken_fine n g flags (k + 1) together h))

-- The end of waits leaves the mutexes.
ended_all-mutexes : (n outcome q : ℕ) (t : Table) → (ended_all n outcome q t).mutexes ≡ t.mutexes
unfolding ended_all
ended_all-mutexes zero outcome q t = refl
ended_all-mutexes (suc n) outcome q t =
    whichever {A = Table} (λ u. u.mutexes ≡ t.mutexes) (eqb (first_in q t) 0) refl
    (ended_all-mutexes n outcome q (ended outcome (first_in q t - 1) t) ∙ ap (λ (u : Table). u.mutexes) (ended_rest outcome (first_in q t - 1) t))

module _ {t : Table} (s : Sound t) (f : Fine t) where
  h : SoundWithin t
  h = s.settled

  blocked-size : (m limit : ℕ) → Sized (blocked waits_mutex m limit nothing_asked t)
  unfolding blocked
  blocked-size m limit = put-size (caller_of t) _ t ∙ f.size

  mutex-wait_fine : (m limit : ℕ) → m < mutex_count → t.running ≢ 0 → ¬ ClosesRing t m → Fine (mutex.wait m limit t)
  unfolding mutex.wait waits
  mutex-wait_fine m limit l c ok = go (eqb (mutex_of t m).holder 0) refl (eqb (mutex_of t m).holder (written (caller_of t))) refl
    where
      first : Table
      first = with_hold_of m (written (caller_of t)) 1 t

      again : Table
      again = with_hold_of m (mutex_of t m).holder ((mutex_of t m).nesting + 1) t

      go : (a : Bool) → eqb (mutex_of t m).holder 0 ≡ a → (b : Bool) → eqb (mutex_of t m).holder (written (caller_of t)) ≡ b
          → Fine (cond (not (not a)) (taken first) (cond b (taken again) (walk (holder_of t m) (blocked waits_mutex m limit nothing_asked t))))
      go true e b q =
          let none = no_queue among-mutexes h.queued m l h.tasks h.objects (inr e) in
          taken_fine {t = first} (record { size = f.size; free = alike-ringless (unwaited-alike m _ t (λ j w. unwaited among-mutexes h.queued m l none j (waits-task t m j f.size w) w.0 w.1)) f.free })
      go false e true q = taken_fine {t = again} (record { size = f.size; free = alike-ringless (held-alike m _ t refl) f.free })
      go false e false q =
          walk_fine (holder_of t m)
          (record { size = blocked-size m limit; free = (wait-closes h f.free m limit l (caller-task s) (runs-able s c)).1 (λ chain. ok (eqb-false _ _ e, eqb-false _ _ q, chain)) })

  mutex-post_fine : (m : ℕ) → m < mutex_count → Fine (mutex.post m t)
  unfolding mutex.post
  mutex-post_fine m l =
      whichever Fine (ltb 1 (mutex_of t m).nesting)
      (record { size = f.size; free = alike-ringless (held-alike m (with_hold (mutex_of t m).holder ((mutex_of t m).nesting - 1) (mutex_of t m)) t refl) f.free })
      (released_fine h m l f)

  -- Each accepted call keeps the table without rings, if a wait that closes one is not accepted.
  pub change_fine : (c : Call) → Presumes c t → ((m block limit : ℕ) → c ≡ MutexWait m block limit → ¬ ClosesRing t m) → Fine (change_by c t)
  unfolding change_by create delete change_priority suspend resume yield delay delay_resume lock unlock set_default ticked abort object_abort object_delete semaphore.create semaphore.wait semaphore.post mutex.create group.create group.wait group.post channel.create channel.wait channel.post channel.flush
  change_fine (TaskCreate i base quantum) a ok = put_fine i _ (inl (λ e. omega arith)) f
  change_fine (TaskDelete i) a ok = walk_fine (next t i) (put_fine i no_task (inl (λ e. omega arith)) f)
  change_fine (ChangePriority i base) a ok = walk_fine i (put_fine i _ (inr (refl, refl)) f)
  change_fine (Suspend i) a ok = put_fine i _ (inr (refl, refl)) f
  change_fine (Resume i) a ok = put_fine i _ (inr (refl, refl)) f
  change_fine Yield a ok = rotate_fine (caller_of t) f
  change_fine (Delay n) a ok = put_fine (caller_of t) _ (inl (λ e. omega arith)) f
  change_fine (DelayResume i) a ok = ended_fine given i f
  change_fine Lock a ok = frame_fine {t = t} refl refl f
  change_fine Unlock a ok = frame_fine {t = t} refl refl f
  change_fine Tick a ok = due_below_fine task_count (turned_fine (frame_fine {t = t} refl refl f))
  change_fine (SetDefaultQuantum n) a ok = frame_fine {t = t} refl refl f
  change_fine (SemaphoreCreate o n) a ok = frame_fine {t = t} refl refl f
  change_fine (SemaphoreDelete o force) a ok = walk_fine task_count (frame_fine {t = emptied (semaphore_queue o) t} refl refl (emptied_fine (semaphore_queue o) f))
  change_fine (SemaphoreWait o block limit) a ok =
      whichever Fine (semaphores.offers t o)
      (taken_fine {t = semaphore.with_count_of o ((semaphore_of t o).count - 1) t} (frame_fine {t = t} refl refl f))
      (quiet-waits semaphores o limit nothing_asked (λ e. omega arith) f)
  change_fine (SemaphorePost o) a ok = whichever Fine (has_waiter (semaphore_queue o) t) (ended_fine given (first_in (semaphore_queue o) t - 1) f) (frame_fine {t = t} refl refl f)
  change_fine (SemaphoreAbort o) a ok = ended_fine _ (first_in (waiters_of semaphores o) t - 1) f
  change_fine (MutexCreate m) a ok = unheld_fine m (held_by 0 0) (omega (arith, a.0, h.queued.shaped.mutexes)) refl f
  change_fine (MutexDelete m force) a ok =
      walk_fine (holder_of t m) (unheld_fine m no_mutex (omega (arith, a, mutexes-emptied)) refl (emptied_fine (mutex_queue m) f))
    where
      mutexes-emptied : length (emptied (mutex_queue m) t).mutexes ≡ mutex_count
      mutexes-emptied = ap length (ended_all-mutexes task_count object_deleted (mutex_queue m) t) ∙ h.queued.shaped.mutexes
  change_fine (MutexWait m block limit) a ok = mutex-wait_fine m limit a.1 a.0 (ok m block limit refl)
  change_fine (MutexPost m) a ok = mutex-post_fine m a.1
  change_fine (MutexAbort m) a ok = ended_fine _ (first_in (waiters_of mutexes m) t - 1) f
  change_fine (GroupCreate g flags) a ok = frame_fine {t = t} refl refl f
  change_fine (GroupDelete g force) a ok = walk_fine task_count (frame_fine {t = emptied (group_queue g) t} refl refl (emptied_fine (group_queue g) f))
  change_fine (GroupWait g block limit mask test consume) a ok =
      let asks = asking mask test consume in
      let left = turned_over (consumed (flags_of t g) asks) (flags_of t g) in
      whichever Fine (is_met (flags_of t g) asks) (taken_fine {t = with_flags_of g left t} (flags_fine g left f)) (quiet-waits groups g limit asks (λ e. omega arith) f)
  change_fine (GroupPost g mask on) a ok = woken_fine task_count g (posted mask on (flags_of t g)) 0 0 f
  change_fine (GroupAbort g) a ok = ended_fine _ (first_in (waiters_of groups g) t - 1) f
  change_fine (ChannelCreate o capacity) a ok = frame_fine {t = t} refl refl f
  change_fine (ChannelDelete o force) a ok = walk_fine task_count (frame_fine {t = holding o [] (emptied (channel_queue o) t)} refl refl (holding_fine o [] (emptied_fine (channel_queue o) f)))
  change_fine (ChannelWait o block limit) a ok =
      let less = holding o (drop 1 (present t o)) t in
      let first = get_or (present t o) 0 0 in
      whichever Fine (channels.offers t o)
      (taken_fine {t = delivered (caller_of t) first less} (delivered_fine {t = less} (caller_of t) first (holding_fine o (drop 1 (present t o)) f)))
      (quiet-waits channels o limit nothing_asked (λ e. omega arith) f)
  change_fine (ChannelPost o message front) a ok =
      let i = first_in (channel_queue o) t - 1 in
      whichever Fine (has_waiter (channel_queue o) t)
      (delivered_fine {t = ended given i t} i message (ended_fine given i f))
      (holding_fine o (with_posted front message (present t o)) f)
  change_fine (ChannelAbort o) a ok = ended_fine _ (first_in (waiters_of channels o) t - 1) f
  change_fine (ChannelFlush o) a ok = holding_fine o [] f

-- The fresh table has no ring.
pub fresh_fine : Fine fresh_table
unfolding ringless after next holder_of fresh_table
fresh_fine = record { size = refl; free = outs_ringless (ends-sized fresh_table refl) 1 (ringless-sound task_count (next fresh_table) 1 task_count refl) }

pub chosen_fine : {t : Table} → Fine t → Fine (chosen t)
unfolding chosen
chosen_fine {t} h = whichever Fine (eqb t.depth 0) (frame_fine {t = t} refl refl h) h
