-- Each call that is accepted on a sound table leaves all right but the choice of the running task.
use Rattle.std.proofs.Math.Path.{refl}
use Rattle.std.proofs.Common.{inl}
use Rattle.std.specs.Prelude.{◌+◌, ◌-◌}
use native.Mathlib.Omega.{arith}
use Rattle.rules.specs.Sizes.{delayed, given}
use Rattle.rules.specs.Table.{Table, nothing_asked, no_task, held_by, with_depth, with_default_quantum}
use Rattle.rules.specs.Sound.{Sound}
use Rattle.rules.specs.Time.{mark_in, yield, delay, delay_resume}
use Rattle.rules.specs.Lock.{lock, unlock}
use Rattle.rules.specs.Quantum.{quantum_of, set_default}
use Rattle.rules.specs.Semaphore as semaphore
use Rattle.rules.specs.Family.{of_state}
use Rattle.rules.specs.Mutex as mutex
use Rattle.rules.specs.Kinds.{spelled}
use Rattle.rules.specs.Step.{change_by, Bounded}
use Rattle.rules.specs.declared.Call.{Call}
use Rattle.rules.specs.declared.Call.TheVariants.{TaskCreate, TaskDelete, ChangePriority, Suspend, Resume, Yield, Delay, DelayResume, Lock, Unlock, Tick, SetDefaultQuantum, SemaphoreCreate, SemaphoreDelete, SemaphoreWait, SemaphorePost, SemaphoreAbort, MutexCreate, MutexDelete, MutexWait, MutexPost, MutexAbort, GroupCreate, GroupDelete, GroupWait, GroupPost, GroupAbort, ChannelCreate, ChannelDelete, ChannelWait, ChannelPost, ChannelAbort, ChannelFlush}
use Rattle.laws.specs.keeps.Becomes.{caller-used}
use Rattle.laws.specs.keeps.Running.{may-run_on, depth-runs}
use Rattle.laws.specs.keeps.Ending.{ticked_keeps}
use Rattle.laws.specs.keeps.Records.{own-least, own_most, created_right, free_right, base_right, suspend_right, marked_right, mark-later, asks_nothing}
use Rattle.laws.specs.chains.Priorities.{created-worked, renewed-worked, change_priority-worked, delay-worked}
use Rattle.rules.specs.Move.{next}
use Rattle.rules.specs.Task.{create, delete, change_priority, suspend, resume}
use Rattle.laws.specs.keeps.Moves.{BeforeChoice, framed-settled, no_wait, may-go_on, goes_on_keeps, put_keeps, put-walk_keeps, rotate_keeps, ended_keeps, stored_keeps}
use Rattle.laws.specs.numbers.Presumes.{Presumes}
use Rattle.laws.specs.queues.Rows.{among-semaphores, among-mutexes, among-groups}
use Rattle.laws.specs.queues.Stands.{no_queue}
use Rattle.laws.specs.keeps.Objects.{unheld_right}
use Rattle.laws.specs.keeps.Families.{mutex-unwaited, semaphores_lawful, mutexes_lawful, groups_lawful, channels_lawful, abort_keeps, delete_keeps}
use Rattle.laws.specs.keeps.Caller.{midway, caller-task, runs-able}
use Rattle.laws.specs.keeps.Semaphore as semaphore-call
use Rattle.laws.specs.keeps.Mutex as mutex-call
use Rattle.laws.specs.keeps.Group as group-call
use Rattle.laws.specs.keeps.Channel as channel-call

module _ {t : Table} (s : Sound t) where
  pub change_keeps : (c : Call) → Bounded c → Presumes c t → BeforeChoice (change_by c t)
  unfolding change_by Bounded spelled create delete change_priority suspend resume delay of_state yield delay_resume lock unlock set_default semaphore.create mutex.create
  change_keeps (TaskCreate i base quantum) b (l, u, p, q) =
      put_keeps (midway s)
      (record {
        task = l;
        right = created_right p (own-least s.settled.numbers quantum) (own_most s.settled.numbers quantum q);
        not_due = omega arith;
        waits = no_wait t i 0 0 (omega arith);
        holds = λ m n e. refl;
        runs = λ d e a. record { used = refl; state = refl; suspend = refl };
      })
      (created-worked s.settled i base (quantum_of quantum t) l (omega (arith, (s.settled.tasks i l).in_range.used)))
  change_keeps (TaskDelete i) b (l, u, other, none) =
      put-walk_keeps (midway s)
      (record {
        task = l;
        right = free_right;
        not_due = omega arith;
        waits = no_wait t i 0 0 (omega arith);
        holds = λ m n e. absurd (none (record { mutex = m; range = n; holder = e }));
        runs = λ d e. absurd (other d e);
      })
      (next t i)
      (renewed-worked s.settled l (λ m n e. none (record { mutex = m; range = n; holder = e })) no_task (λ e. omega arith) refl)
  change_keeps (ChangePriority i base) b (l, u, p) =
      put-walk_keeps (midway s)
      (may-go_on (midway s) l _ (base_right (s.settled.tasks i l) u base p) refl (λ d e a. record { used = a.used; state = a.state; suspend = a.suspend }))
      i
      (change_priority-worked s.settled l base)
  change_keeps (Suspend i) b (l, u, other, n) =
      goes_on_keeps (midway s) l _ (suspend_right (s.settled.tasks i l) u _ (omega arith)) refl refl (λ d e. absurd (other d e))
  change_keeps (Resume i) b (l, u, n) =
      goes_on_keeps (midway s) l _ (suspend_right (s.settled.tasks i l) u _ (omega (arith, (s.settled.tasks i l).in_range.suspend))) refl refl (λ d e a. record { used = a.used; state = a.state; suspend = omega (arith, a.suspend) })
  change_keeps Yield b (c, z, p) = rotate_keeps (midway s) (caller-task s) (runs-able s c)
  change_keeps (Delay n) b (c, some, z) =
      let u = caller-used t (runs-able s c) in
      put_keeps (midway s)
      (record {
        task = (caller-task s);
        right = marked_right (s.settled.tasks _ (caller-task s)) u delayed 0 nothing_asked (omega arith) (omega arith) (asks_nothing (omega arith)) n t (omega arith);
        not_due = λ l e. mark-later n t s.settled.numbers.tick (omega arith) (b 0);
        waits = no_wait t _ 1 0 (omega arith);
        holds = λ m l e. u;
        runs = λ d. absurd (d z);
      })
      (delay-worked s.settled (caller-task s) (runs-able s c) (mark_in n t))
  change_keeps (DelayResume i) b (l, u, e) = ended_keeps (midway s) (record { task = l; used = u; state = λ z. omega arith }) given (omega arith)
  change_keeps Lock b n =
      record {
        settled = framed-settled s.settled (with_depth (t.depth + 1) t) (omega (arith, s.settled.numbers));
        not_due = s.not_due;
        runs = depth-runs s.settled.queued s.runs (t.depth + 1);
      }
  change_keeps Unlock b n =
      record {
        settled = framed-settled s.settled (with_depth (t.depth - 1) t) (omega (arith, s.settled.numbers));
        not_due = s.not_due;
        runs = depth-runs s.settled.queued s.runs (t.depth - 1);
      }
  change_keeps Tick b n = ticked_keeps s
  change_keeps (SetDefaultQuantum n) b (some, most) =
      record {
        settled = framed-settled s.settled (with_default_quantum n t) (omega (arith, s.settled.numbers));
        not_due = s.not_due;
        runs = record { range = s.runs.range; able = (may-run_on s.runs).able };
      }
  change_keeps (SemaphoreCreate o n) b (l, u) =
      semaphore-call.counting_keeps s o _ l refl (omega (arith, b 1)) (no_queue among-semaphores s.settled.queued o l s.settled.tasks s.settled.objects (inl u))
  change_keeps (SemaphoreDelete o force) b l = delete_keeps semaphores_lawful (midway s) o l
  change_keeps (SemaphoreWait o block limit) b (c, l, u, free) = semaphore-call.wait_keeps s o limit (b 2) c l u free
  change_keeps (SemaphorePost o) b (l, u, n) = semaphore-call.post_keeps s o l u n
  change_keeps (SemaphoreAbort o) b (l, some) = abort_keeps semaphores_lawful (midway s) o l some
  change_keeps (MutexCreate m) b (l, u) =
      let z = no_queue among-mutexes s.settled.queued m l s.settled.tasks s.settled.objects (inl u) in
      stored_keeps (midway s) (mutex-unwaited s.settled m (held_by 0 0) l (unheld_right (held_by 0 0) refl) (λ d. absurd (d refl)) z)
  change_keeps (MutexDelete m force) b l = delete_keeps mutexes_lawful (midway s) m l
  change_keeps (MutexWait m block limit) b (c, l, u, room, free) = mutex-call.wait_keeps s m c l u limit (b 2) room free
  change_keeps (MutexPost m) b (c, l, u, own) = mutex-call.post_keeps s m c l u own
  change_keeps (MutexAbort m) b (l, some) = abort_keeps mutexes_lawful (midway s) m l some
  change_keeps (GroupCreate g flags) b (l, u) =
      group-call.create_keeps s g flags l (b 1) (no_queue among-groups s.settled.queued g l s.settled.tasks s.settled.objects (inl u))
  change_keeps (GroupDelete g force) b l = delete_keeps groups_lawful (midway s) g l
  change_keeps (GroupWait g block limit mask test consume) b (c, l, u, some, kind, eats, free) =
      group-call.wait_keeps s g l u limit mask test consume (b 2) (b 3) some kind eats c free
  change_keeps (GroupPost g mask on) b (l, u) = group-call.post_keeps s g l u mask on (b 1)
  change_keeps (GroupAbort g) b (l, some) = abort_keeps groups_lawful (midway s) g l some
  change_keeps (ChannelCreate o capacity) b ((l, u), some, most) = channel-call.create_keeps s o l capacity u (omega arith) most
  change_keeps (ChannelDelete o force) b l = delete_keeps channels_lawful (midway s) o l
  change_keeps (ChannelWait o block limit) b (c, l, u, free) = channel-call.wait_keeps s o l u limit (b 2) c free
  change_keeps (ChannelPost o message front) b (l, u, room, byte) = channel-call.post_keeps s o l u message front (omega (arith, b 1)) room
  change_keeps (ChannelAbort o) b (l, some) = abort_keeps channels_lawful (midway s) o l some
  change_keeps (ChannelFlush o) b (l, u) = channel-call.flush_keeps s o l u
