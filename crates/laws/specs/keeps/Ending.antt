-- Waits that end one after another, and the tick: they keep the groups, a queue is empty once its last waiter has left, and after a tick
-- no mark is due.
use Rattle.std.specs.Prelude.{◌≡◌, refl, ◌≢◌, true, cond, ◌&&◌}
use Rattle.std.proofs.Common.{sym, ap, ◌∙◌, ⊎_elim, not-suc-le-zero, eq-or-lt_of_le, le_of_suc-le-suc, arith, eq-eqb, ne_eqb}
use Prim.Native.Nat.{ℕ, zero, suc, ◌+◌, ◌-◌, ◌%◌, ◌≤◌, ◌<◌}
use Rattle.std.proofs.Math.Decide.{ℕ_discrete}
use Rattle.std.proofs.Math.Dec.{eqb}
use Rattle.rules.specs.Sizes.{task_count, ticks_round, delayed, given, timed_out, object_deleted}
use Rattle.rules.specs.Table.{Table, task_of, queue_count, able_queue, slot_in, first_in, is_able, with_tick, with_left}
use Rattle.rules.specs.Family.{place_of}
use Rattle.rules.specs.Move.{ready, ended, ended_all, has_peer}
use Rattle.rules.specs.Decides.{Decides, equals, both}
use Rattle.rules.specs.Sound.{Empty, Sound, SoundWithin}
use Rattle.rules.specs.Time.{caller_of}
use Rattle.rules.specs.Object.{emptied}
use Rattle.rules.specs.Tick.{turned, is_due, due_ended, due_below, ticked}
use Rattle.rules.specs.declared.Task.{Task}
use Rattle.laws.specs.queues.Put.{sized, pick, whichever, task-put_same, able_left}
use Rattle.laws.specs.keeps.Tally.{tally, tally_most, tally_some, tally_less}
use Rattle.laws.specs.queues.Fields.{bare-place}
use Rattle.laws.specs.queues.Stands.{placed-used, waits_there, slot-range, slot_there, first_there, none_empty}
use Rattle.laws.specs.keeps.Becomes.{Becomes, ended-becomes, caller, shorter}
use Rattle.laws.specs.keeps.Records.{NotYet, left_right}
use Rattle.laws.specs.keeps.Running.{may-run_on, caller-able}
use Rattle.laws.specs.keeps.Moves.{Midway, BeforeChoice, framed-settled, goes_on_keeps, rotate_keeps, Waiter, ended_keeps}

-- ---- a waiter, and the first

-- Who stands in an object's queue waits.
pub slot-waiter : {t : Table} → SoundWithin t → (q : ℕ) → q < queue_count → q ≢ able_queue → (k : ℕ) → slot_in q k t ≢ 0 → Waiter t (slot_in q k t - 1)
slot-waiter {t} s q l d k some =
    let i = slot_in q k t - 1 in
    let n : i < task_count = omega (arith, slot-range s.queued q l k) in
    let there : place_of (task_of t i) ≡ q = slot_there s.queued q l k some in
    record { task = n; used = placed-used (s.tasks i n) (omega arith); state = waits_there (task_of t i) (omega arith) (λ e. d (sym there ∙ e)) }

pub first_waiter : {t : Table} → SoundWithin t → (q : ℕ) → q < queue_count → q ≢ able_queue → first_in q t ≢ 0 → Waiter t (first_in q t - 1)
first_waiter s q l d = slot-waiter s q l d 0

-- ---- each waiter of a queue, from the first

-- How many tasks stand in queue q.
abbrev standing : ℕ → Table → ℕ
standing q t = tally (λ j. eqb (place_of (task_of t j)) q) task_count

-- Each waiter of queue q has left.
pub record Emptied (q : ℕ) (t : Table) : Type 0 where
  pub midway : BeforeChoice t
  pub empty : Empty q t

module _ (q : ℕ) (l : q < queue_count) (d : q ≢ able_queue) where
  -- Whose wait ends, stands there no longer.
  one_fewer : {u : Table} → SoundWithin u → (outcome : ℕ) → first_in q u ≢ 0 → standing q (ended outcome (first_in q u - 1) u) < standing q u
  one_fewer {u} s outcome some =
      tally_less _ _ i
      (λ j n. ap (λ (x : ℕ). eqb x q) (sym (bare-place _) ∙ ap place_of (b.others j n) ∙ bare-place (task_of u j)))
      task_count
      w.task
      (eq-eqb _ _ (first_there s.queued q l some))
      (ne_eqb _ _ (λ e. waits_there (task_of (ended outcome i u) i) (omega arith) (λ z. d (sym e ∙ z)) (ap (λ (k : Task). k.state) b.itself)))
    where
      i : ℕ
      i = first_in q u - 1

      w : Waiter u i
      w = first_waiter s q l d some

      b : Becomes i (ready outcome (task_of u i)) u (ended outcome i u)
      b = ended-becomes w.task s.queued outcome

  -- Where at most n stand there.
  ended_all_lem : {t : Table} (n outcome : ℕ) → outcome ≤ object_deleted → BeforeChoice t → standing q t ≤ n → Emptied q (ended_all n outcome q t)
  unfolding ended_all
  ended_all_lem {t} zero outcome o h most =
      record { midway = h; empty = none_empty h.settled.queued q l (λ j m e. omega (arith, most, tally_some (λ j. eqb (place_of (task_of t j)) q) j task_count m (eq-eqb _ _ e))) }
  ended_all_lem {t} (suc n) outcome o h most =
      pick (Emptied q) equals
      (λ e. record { midway = h; empty = e })
      (λ some. ended_all_lem {t = ended outcome (first_in q t - 1) t} n outcome o (ended_keeps h (first_waiter h.settled q l d some) outcome o) (omega (arith, most, one_fewer h.settled outcome some)))

  pub emptied_all : {t : Table} → BeforeChoice t → Emptied q (emptied q t)
  emptied_all h = ended_all_lem task_count object_deleted (omega arith) h (tally_most _ task_count)

-- ---- each task whose mark is due

pub due : (i : ℕ) (t : Table) → Decides (is_due i t) (((task_of t i).marked ≡ 1) × ((task_of t i).due ≡ t.tick))
due i t = both equals equals

-- "with outcome 1 for a wait and 0 for a delay"
abbrev pub due_outcome : ℕ → Table → ℕ
due_outcome i t = cond (eqb (task_of t i).state delayed) given timed_out

pub due-outcome : (i : ℕ) (t : Table) → due_outcome i t ≤ object_deleted
due-outcome i t = whichever (λ x. x ≤ object_deleted) (eqb (task_of t i).state delayed) (omega arith) (omega arith)

-- Who has a mark waits.
pub marked-waiter : {t : Table} → SoundWithin t → (i : ℕ) → i < task_count → (task_of t i).marked ≡ 1 → Waiter t i
marked-waiter {t} s i l m =
    record {
      task = l;
      used = go (ℕ_discrete (task_of t i).used 0);
      state = λ e. omega (arith, (s.tasks i l).plain_mark e);
    }
  where
    go : Dec ((task_of t i).used ≡ 0) → (task_of t i).used ≡ 1
    go (yes z) = absurd (omega (arith, ap (λ (k : Task). k.marked) ((s.tasks i l).free_zero z)))
    go (no d) = omega (arith, (s.tasks i l).in_range.used)

due_keeps : {t : Table} (n : ℕ) → n < task_count → Midway n t → Midway (suc n) (due_ended n t)
unfolding due_ended
due_keeps {t} n l h =
    pick (Midway (suc n)) (due n t)
    (λ e. also (ended_keeps h (marked-waiter h.settled n l e.0) (due_outcome n t) (due-outcome n t))
    (λ m. absurd (omega (arith, m, ap (λ (k : Task). k.marked) (ended-becomes l h.settled.queued (due_outcome n t)).itself))))
    (λ none. also h (λ m x. none (m, x)))
  where
    -- The first n and n itself.
    also : {u : Table} → Midway n u → NotYet u.tick (task_of u n) → Midway (suc n) u
    also k own = record { settled = k.settled; not_due = λ j m. ⊎_elim (λ e. rw e own) (k.not_due j) (eq-or-lt_of_le (le_of_suc-le-suc m)); runs = k.runs }

pub dues_keep : {t : Table} (n : ℕ) → n ≤ task_count → Midway 0 t → Midway n (due_below n t)
unfolding due_below
dues_keep zero l h = h
dues_keep (suc n) l h = due_keeps n l (dues_keep n (omega arith) h)

-- ---- the tick

-- The running task's turn goes on or ends.
pub turned_keeps : {n : ℕ} {t : Table} → Midway n t → caller_of t < task_count → (t.running ≢ 0 → is_able (caller t) ≡ true) → Midway n (turned t)
unfolding turned
turned_keeps {n} {t} h l able =
    pick (Midway n) equals
    (λ e. h)
    (λ runs. whichever (Midway n) (eqb (task_of (shorter t) (caller_of t)).left 0 && (eqb (shorter t).depth 0 && has_peer (caller_of t) (shorter t))) (rotate_keeps less l (still (able runs))) less)
  where
    k : Task
    k = with_left ((caller t).left - 1) (caller t)

    less : Midway n (shorter t)
    less =
        goes_on_keeps h l k (left_right (h.settled.tasks _ l) _ (omega (arith, (h.settled.tasks _ l).left))) refl refl (λ d e x. record { used = x.used; state = x.state; suspend = x.suspend })

    still : is_able (caller t) ≡ true → is_able (task_of (shorter t) (caller_of t)) ≡ true
    still a = ap is_able (task-put_same (caller_of t) k t l (sized h.settled)) ∙ able_left _ (caller t) ∙ a

-- The counter goes on: a mark may be due.
pub counted_keeps : {t : Table} → Sound t → Midway 0 (with_tick ((t.tick + 1) % ticks_round) t)
counted_keeps {t} s =
    let h = s.settled in
    let r = s.runs in
    record {
      settled = framed-settled h (with_tick ((t.tick + 1) % ticks_round) t) (omega (arith, h.numbers));
      not_due = λ i l. absurd (not-suc-le-zero l);
      runs = record { range = r.range; able = (may-run_on r).able };
    }

pub ticked_keeps : {t : Table} → Sound t → BeforeChoice (ticked t)
unfolding ticked
ticked_keeps {t} s =
    let l : caller_of t < task_count = omega (arith, s.runs.range) in
    dues_keep task_count (omega arith) (turned_keeps (counted_keeps s) l (caller-able s.settled.queued s.runs))
