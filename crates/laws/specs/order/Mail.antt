-- What moves and calls leave of messages: those that the channels have, and those in the records of the tasks.
use Rattle.std.specs.Prelude.{◌≡◌, refl, Bool, true, not, ◌&&◌, ◌||◌, List, ℕ, zero, suc, ◌+◌, ◌-◌, eqb, ltb}
use Rattle.std.proofs.Common.{sym, ap, ◌∙◌, arith}
use Rattle.std.specs.Int.Bits.{bit_or}
use Rattle.rules.specs.Sizes.{task_count, given, object_deleted}
use Rattle.rules.specs.Table.{Table, Asked, nothing_asked, asking, task_of, semaphore_of, mutex_of, first_in, slot_in, semaphore_queue, mutex_queue, group_queue, asked_by, written}
use Rattle.rules.specs.Move.{put, rotate, walk, next, away, ready, ended, ended_all, chosen, has_peer}
use Rattle.rules.specs.Task.{create, change_priority, suspend, resume}
use Rattle.rules.specs.Time.{caller_of, yield, delay, delay_resume}
use Rattle.rules.specs.Lock.{lock, unlock}
use Rattle.rules.specs.Quantum.{set_default}
use Rattle.rules.specs.Family.{Family, waiters_of, semaphores, mutexes, groups, channels}
use Rattle.rules.specs.Object.{has_waiter, blocked, waits, taken, abort, object_abort, object_delete}
use Rattle.rules.specs.Semaphore.{with_count_of}
use Rattle.rules.specs.Semaphore as semaphore
use Rattle.rules.specs.Mutex.{is_held, is_own, with_hold_of, handed, released}
use Rattle.rules.specs.Mutex as mutex
use Rattle.rules.specs.Group.{flags_of, with_flags_of, is_met, consumed, turned_over, posted, woken}
use Rattle.rules.specs.Group as group
use Rattle.rules.specs.Tick.{turned, is_due, due_ended, due_below, ticked}
use Rattle.rules.specs.Messages.{present}
use Rattle.rules.specs.Kinds.{spelled, kind_of}
use Rattle.rules.specs.Sound.{Sound}
use Rattle.rules.specs.Step.{change_by}
use Rattle.rules.specs.declared.Task.{Task}
use Rattle.rules.specs.declared.Semaphore.{Semaphore}
use Rattle.rules.specs.declared.Mutex.{Mutex}
use Rattle.rules.specs.declared.Group.{Group}
use Rattle.rules.specs.declared.Call.{Call}
use Rattle.rules.specs.declared.Call.TheVariants.{TaskCreate, TaskDelete, ChangePriority, Suspend, Resume, Yield, Delay, DelayResume, Lock, Unlock, Tick, SetDefaultQuantum, SemaphoreCreate, SemaphoreDelete, SemaphoreWait, SemaphorePost, SemaphoreAbort, MutexCreate, MutexDelete, MutexWait, MutexPost, MutexAbort, GroupCreate, GroupDelete, GroupWait, GroupPost, GroupAbort, ChannelCreate, ChannelDelete, ChannelWait, ChannelPost, ChannelAbort, ChannelFlush}
use Rattle.laws.specs.queues.Put.{whichever, whichever₃, part-put, part-rotate}
use Rattle.laws.specs.queues.Fields.{put_rest, rotate_rest, walk_rest, walk-bare}
use Rattle.laws.specs.keeps.Becomes.{shorter}
use Rattle.laws.specs.keeps.Running.{chosen_one}
use Rattle.laws.specs.numbers.Presumes.{Presumes}

-- From t to u no message is moved: channels and rows are as they were, and so is the message in each record.
pub record SameMail (t u : Table) : Type 0 where
  pub channels : u.channels ≡ t.channels
  pub rows : u.messages ≡ t.messages
  pub records : (j : ℕ) → (task_of u j).message ≡ (task_of t j).message

pub same_present : {t u : Table} → SameMail t u → (c : ℕ) → present u c ≡ present t c
unfolding present
same_present h c = rw (h.channels, h.rows)

-- Where nothing changes, and where other parts of the table do.
pub no_mail : {t : Table} → SameMail t t
no_mail = record { channels = refl; rows = refl; records = λ j. refl }

pub only_others : {t : Table} {ss : List Semaphore} {ms : List Mutex} {gs : List Group} {qs : List (List ℕ)} {n q d r w : ℕ}
    → SameMail t (record { tasks = t.tasks; semaphores = ss; mutexes = ms; groups = gs; channels = t.channels; queues = qs; tick = n; default_quantum = q; depth = d; running = r; ready = w; messages = t.messages })
only_others = record { channels = refl; rows = refl; records = λ j. refl }

-- One change after another.
pub mail_on : {t u v : Table} → SameMail t u → SameMail u v → SameMail t v
mail_on x y = record { channels = y.channels ∙ x.channels; rows = y.rows ∙ x.rows; records = λ j. y.records j ∙ x.records j }

-- ---- moves

-- A task that becomes another one, with the same message.
pub put_mail : (i : ℕ) (k : Task) (t : Table) → k.message ≡ (task_of t i).message → SameMail t (put i k t)
put_mail i k t e =
    record { channels = ap (λ (x : Table). x.channels) (put_rest i k t); rows = ap (λ (x : Table). x.messages) (put_rest i k t); records = part-put (λ k. k.message) i k t e }

pub rotate_mail : (i : ℕ) (t : Table) → SameMail t (rotate i t)
rotate_mail i t =
    record {
      channels = ap (λ (x : Table). x.channels) (rotate_rest i t);
      rows = ap (λ (x : Table). x.messages) (rotate_rest i t);
      records = part-rotate (λ k. k.message) (λ n k. refl) i t;
    }

pub walk_mail : (w : ℕ) (t : Table) → SameMail t (walk w t)
walk_mail w t =
    record {
      channels = ap (λ (x : Table). x.channels) (walk_rest w t);
      rows = ap (λ (x : Table). x.messages) (walk_rest w t);
      records = λ j. ap (λ (k : Task). k.message) (walk-bare w t j);
    }

pub chosen_mail : (t : Table) → SameMail t (chosen t)
chosen_mail t = chosen_one (SameMail t) t no_mail (λ n. only_others)

-- ---- waits that end

pub ended_mail : (outcome i : ℕ) (t : Table) → SameMail t (ended outcome i t)
unfolding ended
ended_mail outcome i t =
    let left = put i (away (task_of t i)) t in
    let settled = walk (next t i) left in
    mail_on (mail_on (put_mail i (away (task_of t i)) t refl) (walk_mail (next t i) left)) (put_mail i (ready outcome (task_of settled i)) settled refl)

pub all_mail : (n outcome q : ℕ) (t : Table) → SameMail t (ended_all n outcome q t)
unfolding ended_all
all_mail zero outcome q t = no_mail
all_mail (suc n) outcome q t =
    whichever (SameMail t) (eqb (first_in q t) 0) no_mail (mail_on (ended_mail outcome (first_in q t - 1) t) (all_mail n outcome q (ended outcome (first_in q t - 1) t)))

pub woken_mail : (n g flags k together : ℕ) (t : Table) → SameMail t (woken n g flags k together t)
unfolding woken
woken_mail zero g flags k together t = only_others
woken_mail (suc n) g flags k together t =
    let i = slot_in (group_queue g) k t - 1 in
    let asked = asked_by (task_of t i) in
    whichever (SameMail t) (eqb (slot_in (group_queue g) k t) 0)
    only_others
    (whichever₃ (λ k together u. SameMail t (woken n g flags k together u)) (is_met flags asked)
    (mail_on (ended_mail given i t) (woken_mail n g flags k (bit_or together (consumed flags asked)) (ended given i t)))
    (woken_mail n g flags (k + 1) together t))

-- ---- a tick

due_mail : (n : ℕ) (t : Table) → SameMail t (due_below n t)
unfolding due_below due_ended
due_mail zero t = no_mail
due_mail (suc n) t =
    let u = due_below n t in
    mail_on (due_mail n t) (whichever (SameMail u) (is_due n u) (ended_mail _ n u) no_mail)

turned_mail : (t : Table) → SameMail t (turned t)
unfolding turned
turned_mail t =
    let i = caller_of t in
    let less = put_mail i _ t refl in
    whichever (SameMail t) (eqb t.running 0) no_mail (whichever (SameMail t) (eqb (task_of (shorter t) i).left 0 && (eqb (shorter t).depth 0 && has_peer i (shorter t))) (mail_on less (rotate_mail i (shorter t))) less)

pub ticked_mail : (t : Table) → SameMail t (ticked t)
unfolding ticked
ticked_mail t = mail_on only_others (mail_on (turned_mail _) (due_mail task_count _))

-- ---- calls on other objects

pub taken_mail : (t : Table) → SameMail t (taken t)
unfolding taken
taken_mail t = put_mail _ _ t refl

pub waits_mail : (f : Family) (o limit : ℕ) (a : Asked) (t : Table) → SameMail t (waits f o limit a t)
unfolding waits blocked
waits_mail f o limit a t = mail_on (put_mail (caller_of t) _ t (whichever (λ (k : Task). k.message ≡ (task_of t (caller_of t)).message) (eqb limit 0) refl refl)) (walk_mail _ _)

pub abort_mail : (f : Family) (o : ℕ) (t : Table) → SameMail t (object_abort f o t)
unfolding object_abort abort
abort_mail f o t = ended_mail _ _ t

-- Of a family that is no channels': where one of it goes, no message is moved.
pub delete_mail : (f : Family) → ((o : ℕ) (u : Table) → SameMail u (f.gone o u)) → (o : ℕ) (t : Table) → SameMail t (object_delete f o t)
unfolding object_delete
delete_mail f gone o t = mail_on (mail_on (all_mail task_count object_deleted (waiters_of f o) t) (gone o _)) (walk_mail _ _)

pub released_mail : (m : ℕ) (t : Table) → SameMail t (released m t)
unfolding released handed
released_mail m t =
    let free = walk (caller_of t) (with_hold_of m 0 0 t) in
    let w = first_in (mutex_queue m) free in
    let frees : SameMail t free = mail_on only_others (walk_mail (caller_of t) (with_hold_of m 0 0 t)) in
    whichever (SameMail t) (eqb w 0) frees (mail_on frees (mail_on only_others (put_mail (w - 1) (ready given (task_of free (w - 1))) (with_hold_of m w 1 free) refl)))

-- ---- how each call deals with messages

-- The kind is that of no call of a channel but abort.
abbrev pub is_apart : ℕ → Bool
is_apart kind = ltb kind 0x40 || eqb kind 0x44

-- A call of a channel, a task delete, after which the task's record has no message; or one that moves none.
pub data Deals (t : Table) : Call → Type 0 where
  removes : (i : ℕ) → Deals t (TaskDelete i)
  creates : (c capacity : ℕ) → Deals t (ChannelCreate c capacity)
  deletes : (c force : ℕ) → Deals t (ChannelDelete c force)
  awaits : (c block limit : ℕ) → Deals t (ChannelWait c block limit)
  posts : (c v front : ℕ) → Deals t (ChannelPost c v front)
  flushes : (c : ℕ) → Deals t (ChannelFlush c)
  leaves : {call : Call} → is_apart (kind_of call) ≡ true → SameMail t (change_by call t) → Deals t call

pub deals : {t : Table} → Sound t → (call : Call) → Presumes call t → Deals t call
unfolding spelled change_by create change_priority suspend resume yield delay delay_resume lock unlock set_default semaphore.create semaphore.wait semaphore.post mutex.create mutex.wait mutex.post group.create group.wait group.post
deals {t} s (TaskCreate i base quantum) (l, u, b, q) =
    leaves refl (put_mail i _ t (sym (ap (λ (k : Task). k.message) ((s.settled.tasks i l).free_zero (omega (arith, (s.settled.tasks i l).in_range.used))))))
deals s (TaskDelete i) h = removes i
deals {t} s (ChangePriority i base) h = leaves refl (mail_on (put_mail i _ t refl) (walk_mail i _))
deals {t} s (Suspend i) h = leaves refl (put_mail i _ t refl)
deals {t} s (Resume i) h = leaves refl (put_mail i _ t refl)
deals {t} s Yield h = leaves refl (rotate_mail (caller_of t) t)
deals {t} s (Delay n) h = leaves refl (put_mail (caller_of t) _ t refl)
deals {t} s (DelayResume i) h = leaves refl (ended_mail given i t)
deals s Lock h = leaves refl only_others
deals s Unlock h = leaves refl only_others
deals {t} s Tick h = leaves refl (ticked_mail t)
deals s (SetDefaultQuantum n) h = leaves refl only_others
deals s (SemaphoreCreate o n) h = leaves refl only_others
deals {t} s (SemaphoreDelete o force) h = leaves refl (delete_mail semaphores (λ o u. only_others) o t)
deals {t} s (SemaphoreWait o block limit) h =
    leaves refl (whichever (SameMail t) (semaphores.offers t o) (mail_on only_others (taken_mail (with_count_of o ((semaphore_of t o).count - 1) t))) (waits_mail semaphores o limit nothing_asked t))
deals {t} s (SemaphorePost o) h = leaves refl (whichever (SameMail t) (has_waiter (semaphore_queue o) t) (ended_mail given _ t) only_others)
deals {t} s (SemaphoreAbort o) h = leaves refl (abort_mail semaphores o t)
deals s (MutexCreate m) h = leaves refl only_others
deals {t} s (MutexDelete m force) h = leaves refl (delete_mail mutexes (λ o u. only_others) m t)
deals {t} s (MutexWait m block limit) h =
    leaves refl
    (whichever (SameMail t) (not (is_held m t)) (mail_on only_others (taken_mail (with_hold_of m (written (caller_of t)) 1 t)))
    (whichever (SameMail t) (is_own m t) (mail_on only_others (taken_mail (with_hold_of m (mutex_of t m).holder ((mutex_of t m).nesting + 1) t))) (waits_mail mutexes m limit nothing_asked t)))
deals {t} s (MutexPost m) h = leaves refl (whichever (SameMail t) (ltb 1 (mutex_of t m).nesting) only_others (released_mail m t))
deals {t} s (MutexAbort m) h = leaves refl (abort_mail mutexes m t)
deals s (GroupCreate g flags) h = leaves refl only_others
deals {t} s (GroupDelete g force) h = leaves refl (delete_mail groups (λ o u. only_others) g t)
deals {t} s (GroupWait g block limit mask test consume) h =
    let asked = asking mask test consume in
    leaves refl
    (whichever (SameMail t) (is_met (flags_of t g) asked) (mail_on only_others (taken_mail (with_flags_of g (turned_over (consumed (flags_of t g) asked) (flags_of t g)) t))) (waits_mail groups g limit asked t))
deals {t} s (GroupPost g mask on) h = leaves refl (woken_mail task_count g (posted mask on (flags_of t g)) 0 0 t)
deals {t} s (GroupAbort g) h = leaves refl (abort_mail groups g t)
deals s (ChannelCreate c capacity) h = creates c capacity
deals s (ChannelDelete c force) h = deletes c force
deals s (ChannelWait c block limit) h = awaits c block limit
deals s (ChannelPost c v front) h = posts c v front
deals {t} s (ChannelAbort c) h = leaves refl (abort_mail channels c t)
deals s (ChannelFlush c) h = flushes c
