-- "These must be shut out": the paper's five impostors, each as a definition, and the law that nothing which does what the rules say is
-- one of them. A kernel is anything that gives each call and table an answer, a new table and the task to run.
-- For a reader who knows no antt: `A → ⊥` is "not A", `x ≢ y` is "x is not y", and `Honest f` says of the kernel f that it is none of
-- the five. The law `honest` asks of f only that it agree with the rules' `step` on sound tables.
use Rattle.std.specs.Prelude.{◌≡◌, refl, ◌≢◌, Bool, true, false, [], ◌∷◌, ℕ, ◌<◌}
use Rattle.std.proofs.Common.{sym, ap, ◌∙◌, true≢false, arith}
use Rattle.rules.specs.Sizes.{task_count, done, not_locked}
use Rattle.rules.specs.Table.{Table, fresh_table, task_of, semaphore_of, mutex_of, holder_of}
use Rattle.rules.specs.Chain.{Fresh}
use Rattle.std.specs.Int.Count.{count_leading_zeros}
use Rattle.rules.specs.Ready.{bit_of, with_level, without_level, first_level, levels_below, beside, ready_without, ready_with}
use Rattle.rules.specs.Move.{next, base_of}
use Rattle.rules.specs.Sound.{Sound}
use Rattle.rules.specs.Step.{Outcome, changes, step}
use Rattle.rules.specs.Bench.{after}
use Rattle.rules.specs.declared.Call.{Call}
use Rattle.rules.specs.declared.Call.TheVariants.{TaskCreate, Lock, Unlock, MutexCreate, MutexWait}
use Rattle.laws.specs.order.Order.{Made}
-- These the proofs alone use.
use Rattle.queue.specs.Slots.{first_at, from, push, pull, opened, closed}
use Rattle.queue.specs.Order.{count, may_precede, fits, is_ordered}
use Rattle.rules.specs.Sound.{each, is_shaped, marks_in, is_task_in_range, is_no_task, is_no_semaphore, is_no_mutex, is_no_group, is_no_channel, asks_in, is_sound_task, is_sound_semaphore, is_sound_mutex, is_sound_group, is_sound_channel, may_wait, is_sound_wait, each_of, is_sound_objects, is_sound_ready, is_sound_queues, is_worked_out, is_sound_numbers, is_sound_within, is_sound_runs, is_sound}
use Rattle.rules.specs.Family.{of_state, place_of}
use Rattle.rules.proofs.Tested.{tested-sound}
use Rattle.rules.specs.Chain.{leads, smallest, fresh}
use Rattle.rules.specs.Walk.{walk_on}
use Rattle.rules.specs.Table.{is_able, works}
use Rattle.rules.specs.Ready.{bit_of, with_level, without_level, first_level, levels_below, beside, ready_without, ready_with}
use Rattle.rules.specs.Move.{leave, join, stays, is_raised, put, fresh_in, chosen}
use Rattle.rules.specs.Quantum.{quantum_of}
use Rattle.rules.specs.Task.{create_answer, create}
use Rattle.rules.specs.Lock.{lock_answer, lock, unlock_answer}
use Rattle.rules.specs.Object.{object_create_answer, blocked, waits, taken}
use Rattle.rules.specs.Mutex as mutex
use Rattle.rules.specs.Kinds.{told_in, spelled}
use Rattle.rules.specs.Step.{answer_to, change_by, for_interrupts, answer, effect, serve}
use Rattle.laws.specs.keeps.Sounds.{step-serve, step-sound, fresh-sound}

-- ---- the five

-- Anything that serves calls.
abbrev pub Kernel : Type 0
Kernel = Call → Bool → Table → Outcome

-- The table that it leaves.
abbrev pub left_by : Kernel → Made → Table → Table
left_by f c t = (f c.call c.interrupt t).table

-- "one that refuses everything"
abbrev pub RefusesAll : Kernel → Type 0
RefusesAll f = (c : Call) (interrupt : Bool) (t : Table) → Sound t → changes (f c interrupt t).answer ≡ false

-- "one that answers the same number always"
abbrev pub SameNumber : Kernel → Type 0
SameNumber f = (n : ℕ) × ((c : Call) (interrupt : Bool) (t : Table) → Sound t → (f c interrupt t).answer ≡ n)

-- "one that answers 0 and changes nothing": wherever it answers 0
abbrev pub ChangesNothing : Kernel → Type 0
ChangesNothing f = (c : Call) (interrupt : Bool) (t : Table) → Sound t → (f c interrupt t).answer ≡ done → (f c interrupt t).table ≡ t

-- "one that raises a holder at the first wait and only pretends later": a task that works at another number than its base is raised no
-- further by a wait, whoever waits for what
abbrev pub RaisesOnce : Kernel → Type 0
RaisesOnce f =
    (m limit : ℕ) (t : Table) → Sound t → (i : ℕ) → (task_of t i).work ≢ (task_of t i).base → (task_of (f (MutexWait m 1 limit) false t).table i).work ≡ (task_of t i).work

-- The same, more broadly: somewhere it leaves a task that works at another number than the one worked out afresh.
pub record Pretends (f : Kernel) : Type 0 where
  pub table : Table
  pub sound : Sound table
  pub made : Made
  pub task : ℕ
  pub range : task < task_count
  pub wrong : let after = left_by f made table in Fresh task_count (next after) (base_of after) task (task_of after task).work → ⊥

-- "one with an invented nesting, depth or semaphore count": some call, whatever it is answered, leaves a number of a sound table that is
-- not the one that the rules give
pub data Invents (f : Kernel) : Type 0 where
  of_depth : (t : Table) → Sound t → (c : Made) → (left_by f c t).depth ≢ (left_by step c t).depth → Invents f
  of_nesting : (t : Table) → Sound t → (c : Made) (m : ℕ) → (mutex_of (left_by f c t) m).nesting ≢ (mutex_of (left_by step c t) m).nesting → Invents f
  of_count : (t : Table) → Sound t → (c : Made) (s : ℕ) → (semaphore_of (left_by f c t) s).count ≢ (semaphore_of (left_by step c t) s).count → Invents f

-- None of the five.
pub record Honest (f : Kernel) : Type 0 where
  pub accepts : RefusesAll f → ⊥
  pub varies : SameNumber f → ⊥
  pub acts : ChangesNothing f → ⊥
  pub raises : RaisesOnce f → ⊥
  pub keeps_on : Pretends f → ⊥
  pub counts : Invents f → ⊥

-- f does what the rules say, on sound tables.
abbrev pub Meets : Kernel → Type 0
Meets f = (c : Call) (interrupt : Bool) (t : Table) → Sound t → f c interrupt t ≡ step c interrupt t

-- Task 3 (10) holds mutex 0, task 2 (7) waits for it, and task 1 (5) runs: task 3 works at 7.
abbrev pub raised : Table
raised = after fresh_table (TaskCreate 3 10 0 ∷ MutexCreate 0 ∷ MutexWait 0 1 0 ∷ TaskCreate 2 7 0 ∷ MutexWait 0 1 0 ∷ TaskCreate 1 5 0 ∷ [])

-- ---- the law

-- On the fresh table lock is done and adds 1 to the depth, and unlock is refused.
locks : ((step Lock false fresh_table).answer ≡ done) × ((step Lock false fresh_table).table.depth ≡ 1)
unfolding serve answer answer_to lock_answer told_in spelled for_interrupts effect change_by lock chosen fresh_table
locks = let e = step-serve fresh-sound Lock false in (ap (λ (o : Outcome). o.answer) e, ap (λ (o : Outcome). o.table.depth) e)

refuses : (step Unlock false fresh_table).answer ≡ not_locked
unfolding serve answer answer_to unlock_answer told_in spelled for_interrupts fresh_table
refuses = ap (λ (o : Outcome). o.answer) (step-serve fresh-sound Unlock false)

-- Task 3 is raised already, and the next wait raises it further.
record Raising : Type 0 where
  sound : is_sound raised ≡ true
  before : (task_of raised 3).work ≡ 7
  base : (task_of raised 3).base ≡ 10
  next : (task_of (serve (MutexWait 0 1 0) false raised).table 3).work ≡ 5

raising : Raising
unfolding first_at from push pull opened closed leads smallest fresh walk_on fresh_table is_able place_of works count_leading_zeros bit_of with_level without_level first_level levels_below beside ready_without ready_with leave join stays is_raised put holder_of next fresh_in chosen quantum_of create_answer create object_create_answer blocked waits taken mutex.create mutex.wait_answer mutex.wait answer_to change_by told_in spelled for_interrupts answer effect serve count may_precede fits is_ordered each is_shaped of_state marks_in is_task_in_range is_no_task is_no_semaphore is_no_mutex is_no_group is_no_channel asks_in is_sound_task is_sound_semaphore is_sound_mutex is_sound_group is_sound_channel may_wait each_of is_sound_wait is_sound_objects is_sound_ready is_sound_queues is_worked_out is_sound_numbers is_sound_within is_sound_runs is_sound after
raising = record { sound = refl; before = refl; base = refl; next = refl }

-- Nothing that does what the rules say is one of the five.
pub honest : (f : Kernel) → Meets f → Honest f
unfolding fresh_table
honest f meets =
    record {
      accepts = λ r. true≢false (sym (ap changes (given Lock ∙ locks.0)) ∙ r Lock false fresh_table fresh-sound);
      varies = λ r.
          let (n, same) = r in
          let a : (step Lock false fresh_table).answer ≡ n = sym (given Lock) ∙ same Lock false fresh_table fresh-sound in
          let b : (step Unlock false fresh_table).answer ≡ n = sym (given Unlock) ∙ same Unlock false fresh_table fresh-sound in
          omega (arith, locks.0, refuses);
      acts = λ r.
          let e : (f Lock false fresh_table).table ≡ fresh_table = r Lock false fresh_table fresh-sound (given Lock ∙ locks.0) in
          omega (arith, locks.1, ap (λ (o : Outcome). o.table.depth) (meets Lock false fresh_table fresh-sound), ap (λ (u : Table). u.depth) e);
      raises = λ r.
          let s = tested-sound raised raising.sound in
          let a = r 0 0 raised s 3 (λ e. omega (arith, raising.before, raising.base, e)) in
          let b = ap (λ (o : Outcome). (task_of o.table 3).work) (meets (MutexWait 0 1 0) false raised s ∙ step-serve s (MutexWait 0 1 0) false) in
          omega (arith, raising.before, raising.next, a, b);
      keeps_on = λ p.
          let c = p.made in
          p.wrong (rw (agrees p.sound c) ((step-sound p.sound c.call c.bounded c.interrupt).settled.worked p.task p.range));
      counts = invents;
    }
  where
    given : (c : Call) → (f c false fresh_table).answer ≡ (step c false fresh_table).answer
    given c = ap (λ (o : Outcome). o.answer) (meets c false fresh_table fresh-sound)

    agrees : {t : Table} → Sound t → (c : Made) → left_by f c t ≡ left_by step c t
    agrees {t} s c = ap (λ (o : Outcome). o.table) (meets c.call c.interrupt t s)

    invents : Invents f → ⊥
    invents (of_depth t s c d) = d (ap (λ (u : Table). u.depth) (agrees s c))
    invents (of_nesting t s c m d) = d (ap (λ (u : Table). (mutex_of u m).nesting) (agrees s c))
    invents (of_count t s c o d) = d (ap (λ (u : Table). (semaphore_of u o).count) (agrees s c))

-- Such a kernel there is: the rules' own step.
pub rules-honest : Honest step
rules-honest = honest step (λ c interrupt t s. refl)
