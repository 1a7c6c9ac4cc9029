-- What the standing rules say of one task's record alone, for each record that a call stores.
use Rattle.std.specs.Prelude.{◌≡◌, refl, ◌≢◌, ℕ, ◌≤◌, ◌<◌, eqb}
use Rattle.std.proofs.Common.{ap, ap₂, arith, ne_eqb}
use Rattle.rules.specs.Sizes.{last_priority, most_nested, most_quantum, ticks_round, flag_sets, test_count, plain, delayed, waits_flags, object_deleted, greatest_message}
use Rattle.rules.specs.Table.{Table, Asked, nothing_asked, no_task, with_base, with_work, with_suspend, with_left, with_state, with_mark, with_outcome, with_message, with_asked}
use Rattle.rules.specs.Decides.{equals}
use Rattle.rules.specs.Move.{ready}
use Rattle.rules.specs.Sound.{marks_in, asks_in, TaskInRange, SoundTask, SoundNumbers}
use Rattle.rules.specs.Family.{last_state, of_state, objects_in}
use Rattle.rules.specs.Quantum.{quantum_of}
use Rattle.rules.specs.Task.{created}
use Rattle.rules.specs.Time.{mark_in}
use Rattle.rules.specs.Object.{limited}
use Rattle.rules.specs.declared.Task.{Task}
use Rattle.laws.specs.queues.Put.{whichever, pick}

-- ---- fields in range

-- What a task in this state may ask of flags: nothing but in a wait for them.
pub record MayAsk (state : ℕ) (a : Asked) : Type 0 where
  pub mask : a.mask < asks_in state flag_sets
  pub test : a.test < asks_in state test_count
  pub consume : a.consume < asks_in state 2
  pub some : state ≡ waits_flags → 1 ≤ a.mask

pub asks_nothing : {state : ℕ} → state ≢ waits_flags → MayAsk state nothing_asked
unfolding asks_in
asks_nothing {state} d =
    let e = ne_eqb state waits_flags d in
    record { mask = rw e (omega arith); test = rw e (omega arith); consume = rw e (omega arith); some = λ e. absurd (d e) }

-- A task in use has no fields that must be zero.
in_use : {k : Task} → k.used ≡ 1 → TaskInRange k → (k.state ≡ plain → k.marked ≡ 0) → (k.state ≡ delayed → k.marked ≡ 1) → k.left ≤ k.quantum → (k.state ≡ waits_flags → 1 ≤ k.mask)
    → 1 ≤ k.quantum
    → SoundTask k
in_use {k} u r p d l m q = record { in_range = r; free_zero = λ z. absurd (omega arith); plain_mark = p; delay_mark = d; left = l; asks = m; turn = λ e. q }

pub free_right : SoundTask no_task
unfolding of_state marks_in asks_in
free_right = record { in_range = omega arith; free_zero = λ z. refl; plain_mark = λ e. refl; delay_mark = λ e. absurd (omega arith); left = omega arith; asks = λ e. absurd (omega arith); turn = λ e. absurd (omega arith) }

-- The quantum of a task that is created, with 0 or with a number that is given.
module _ {t : Table} (s : SoundNumbers t) (quantum : ℕ) where
  pub own-least : 1 ≤ quantum_of quantum t
  unfolding quantum_of
  own-least = pick (λ n. 1 ≤ n) equals (λ e. s.default_least) (λ (d : quantum ≢ 0). omega arith)

  pub own_most : quantum ≤ most_quantum → quantum_of quantum t ≤ most_quantum
  unfolding quantum_of
  own_most l = whichever (λ n. n ≤ most_quantum) (eqb quantum 0) s.default_most l

pub created_right : {base quantum : ℕ} → base ≤ last_priority → 1 ≤ quantum → quantum ≤ most_quantum → SoundTask (created base quantum)
unfolding of_state marks_in asks_in
created_right b l q = in_use refl (omega arith) (λ e. refl) (λ e. absurd (omega arith)) (omega arith) (λ e. absurd (omega arith)) l

module _ {k : Task} (r : SoundTask k) where
  -- A working priority no greater than the base.
  pub work_right : (p : ℕ) → p ≤ k.base → SoundTask (with_work p k)
  work_right p l =
      record {
        in_range = omega arith;
        free_zero = λ z. let e : k ≡ no_task = r.free_zero z in let n : p ≡ 0 = omega (arith, ap (λ (x : Task). x.base) e) in ap₂ with_work n e;
        plain_mark = r.plain_mark;
        delay_mark = r.delay_mark;
        left = r.left;
        asks = r.asks;
        turn = r.turn;
      }

  -- No more left than the quantum.
  pub left_right : (x : ℕ) → x ≤ k.quantum → SoundTask (with_left x k)
  left_right x l =
      record {
        in_range = omega arith;
        free_zero = λ z. let e : k ≡ no_task = r.free_zero z in let n : x ≡ 0 = omega (arith, ap (λ (x : Task). x.quantum) e) in ap₂ with_left n e;
        plain_mark = r.plain_mark;
        delay_mark = r.delay_mark;
        left = l;
        asks = r.asks;
        turn = r.turn;
      }

  module _ (u : k.used ≡ 1) where
    pub base_right : (base : ℕ) → base ≤ last_priority → SoundTask (with_base base k)
    base_right base l = in_use u (omega arith) r.plain_mark r.delay_mark r.left r.asks (r.turn u)

    pub suspend_right : (n : ℕ) → n ≤ most_nested → SoundTask (with_suspend n k)
    suspend_right n l = in_use u (omega arith) r.plain_mark r.delay_mark r.left r.asks (r.turn u)

    pub outcome_right : (outcome : ℕ) → outcome ≤ object_deleted → SoundTask (with_outcome outcome k)
    outcome_right outcome l = in_use u (omega arith) r.plain_mark r.delay_mark r.left r.asks (r.turn u)

    pub message_right : (v : ℕ) → v ≤ greatest_message → SoundTask (with_message v k)
    message_right v l = in_use u (omega arith) r.plain_mark r.delay_mark r.left r.asks (r.turn u)

    pub ready_right : (outcome : ℕ) → outcome ≤ object_deleted → SoundTask (ready outcome k)
    unfolding of_state marks_in asks_in
    ready_right outcome l = in_use u (omega arith) (λ e. refl) (λ e. absurd (omega arith)) r.left (λ e. absurd (omega arith)) (r.turn u)

    module _ (state object : ℕ) (a : Asked) (l : state ≤ last_state) (o : object < objects_in state) (m : MayAsk state a) where
      -- A delay, or a wait with its limit.
      pub marked_right : (n : ℕ) (t : Table) → state ≢ plain → SoundTask (with_asked a (with_state state object (with_mark 1 (mark_in n t) k)))
      unfolding marks_in
      marked_right n t d = in_use u (omega (arith, m.mask, m.test, m.consume)) (λ e. absurd (d e)) (λ e. refl) r.left m.some (r.turn u)

      unmarked_right : delayed < state → SoundTask (with_asked a (with_state state object (with_mark 0 0 k)))
      unfolding marks_in
      unmarked_right d = in_use u (omega (arith, m.mask, m.test, m.consume)) (λ e. refl) (λ e. absurd (omega arith)) r.left m.some (r.turn u)

      pub limited_right : (limit : ℕ) (t : Table) → delayed < state → SoundTask (with_asked a (with_state state object (limited limit t k)))
      limited_right limit t d = whichever (λ x. SoundTask (with_asked a (with_state state object x))) (eqb limit 0) (unmarked_right d) (marked_right limit t (λ e. omega arith))

    pub limited-used : (limit : ℕ) (t : Table) → (limited limit t k).used ≡ 1
    limited-used limit t = whichever (λ (x : Task). x.used ≡ 1) (eqb limit 0) u u

-- ---- due marks

-- No mark of the task equals the counter.
abbrev pub NotYet : ℕ → Task → Type 0
NotYet tick k = k.marked ≡ 1 → k.due ≡ tick → ⊥

-- A mark set now is some way ahead.
pub mark-later : (n : ℕ) (t : Table) → t.tick < ticks_round → 0 < n → n < ticks_round → mark_in n t ≢ t.tick
mark-later n t l z m e = omega arith

pub limited-later : (t : Table) (k : Task) (state object limit : ℕ) (a : Asked) → t.tick < ticks_round → limit < ticks_round → NotYet t.tick (with_asked a (with_state state object (limited limit t k)))
limited-later t k state object limit a l m =
    pick (λ x. NotYet t.tick (with_asked a (with_state state object x))) equals (λ e. omega arith) (λ (d : limit ≢ 0) q. mark-later limit t l (omega arith) m)
