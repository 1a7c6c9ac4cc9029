-- The caller takes an object at once, and its outcome alone changes; or it blocks.
use Rattle.std.specs.Prelude.{List, Result, Ok, Err, IsErrAnd}
use mathlib.Core.Path.{◌≡◌, refl, sym, ap, ◌∙◌}
use mathlib.Core.Bool.{Bool, true, false, not, ◌&&◌}
use Prim.Native.Nat.{ℕ, ◌-◌, ◌≤◌, ◌<◌}
use native.Mathlib.Omega.{arith}
use lib.Dec.{eqb}
use lib.ListN.{length}
use borrow.Author.Tests.{lt-ltb, le-ltb, ne_eqb}
use Rattle.rules.specs.Sizes.{task_count, given, aborted, done, bad_value, no_waiter, still_needed}
use Rattle.rules.specs.Table.{Table, Asked, task_of, first_in, written, with_task, with_state, with_outcome, with_asked}
use Rattle.rules.specs.declared.Task.{Task}
use Rattle.rules.specs.Family.{Family, place_of, waiters_of}
use Rattle.rules.specs.Time.{caller_of}
use Rattle.rules.specs.Move.{walk, ended}
use Rattle.rules.specs.Object.{limited, blocked, taken, abort_answer, abort, emptied, has_waiter, delete_answer, object_delete}
use Rattle.laws.specs.queues.Put.{whichever, put_out, put-stays, place_same}
use Rattle.table.specs.Settled.{settled, then_stored, settled-put}
use Rattle.service.specs.Answers.{refusal_number, number_of, refusal-keeps}
use Rattle.service.specs.Served.{Served}
use Rattle.service.specs.Serving.{told, refuse_on}
use Rattle.service.specs.declared.answers.Done.{Done}
use Rattle.service.specs.declared.answers.Refusal.{Refusal}

-- A time limit leaves the working priority.
limited-work : (limit : ℕ) (t : Table) (k : Task) → k.work ≡ (limited limit t k).work
limited-work limit t k = whichever (λ (x : Task). k.work ≡ x.work) (eqb limit 0) refl refl

module _ (t : Table) {i : ℕ} (caller : i ≡ caller_of t) where
  pub taken_none : task_count ≤ i → t ≡ taken t
  unfolding taken
  taken_none l = rw (← caller) (sym (put_out i _ t l))

  pub taken_one : i < task_count → with_task i (with_outcome given (task_of t i)) t ≡ taken t
  unfolding taken
  taken_one l = rw (← caller) (sym (put-stays i _ t l (sym (place_same (task_of t i) (with_outcome given (task_of t i)) refl refl refl refl)) refl))

  module _ (state object limit : ℕ) (a : Asked) where
    pub blocked_none : task_count ≤ i → t ≡ blocked state object limit a t
    unfolding blocked
    blocked_none l = rw (← caller) (sym (put_out i _ t l))

    -- its fields are stored one after the other, and it settles
    pub blocked_one : i < task_count → length t.tasks ≡ task_count → {q : ℕ} → q ≡ place_of (task_of t i) → (marked stored asked : Table)
        → marked ≡ with_task i (limited limit t (task_of t i)) t → stored ≡ with_task i (with_state state object (task_of marked i)) marked
        → asked ≡ with_task i (with_asked a (task_of stored i)) stored → settled q i asked ≡ blocked state object limit a t
    unfolding blocked
    blocked_one l size {q} place marked stored asked e d f =
        let k = limited limit t (task_of t i) in
        let w = d ∙ then_stored i t l size (with_state state object) k marked e in
        rw (← caller) (settled-put i (with_asked a (with_state state object k)) t l size asked (f ∙ then_stored i t l size (with_asked a) (with_state state object k) stored w) q place (limited-work limit t (task_of t i)))

-- ---- abort and delete, of an object whose waiters stand in queue q

module _ (q : ℕ) (t : Table) where
  pub no-waiter : 0 ≡ first_in q t → no_waiter ≡ abort_answer q t
  no-waiter none = rw (← none)

  -- task w stands first
  module _ (w : ℕ) (first : written w ≡ first_in q t) where
    pub a-waiter : done ≡ abort_answer q t
    a-waiter = rw (← first, ne_eqb (written w) 0 (λ z. omega (arith, z)))

    pub aborts : {u : Table} → u ≡ ended aborted w t → u ≡ abort q t
    unfolding abort
    aborts e =
        let it : w ≡ first_in q t - 1 = omega (arith, first) in
        rw (← it) e

module _ (f : Family) (o : ℕ) (t : Table) {q h : ℕ} (place : q ≡ waiters_of f o) (holder : h ≡ f.holder t o) where
  -- its waiters are let go, it goes, and the chain from its holder moves
  pub deletes : (free gone moved : Table) → free ≡ emptied q t → gone ≡ f.gone o free → moved ≡ walk h gone → moved ≡ object_delete f o t
  unfolding object_delete
  deletes free gone moved d e m = m ∙ rw (holder, e, d, place)

-- the answer of a delete of an object in use
module _ (force q : ℕ) (t : Table) where
  pub bad-force : 1 < force → bad_value ≡ delete_answer force q t
  bad-force l = rw (lt-ltb _ _ l)

  module _ {p : ℕ} {b : Bool} (few : force ≤ 1) (place : p ≡ q) (waiter : b ≡ has_waiter p t) where
    pub needed : (eqb force 0 && b) ≡ true → still_needed ≡ delete_answer force q t
    needed e = rw (le-ltb _ _ few, ← place, ← waiter, e)

    pub not-needed : (eqb force 0 && b) ≡ false → done ≡ delete_answer force q t
    not-needed e = rw (le-ltb _ _ few, ← place, ← waiter, e)

-- a service refused by the part that begins it: the refusal is handed on
pub handed-through : {n n' : ℕ} {a new : Table} {l m : List ℕ} (r : Refusal) (answer : Result Done Refusal) → IsErrAnd answer (λ e. e ≡ r) → n ≡ n' → Served n a (refusal_number r) l m → Served n' new (number_of answer) l m
handed-through r (Err x) h e s = rw h (told e refl (refuse_on s (sym (ap not (refusal-keeps r))) refl))
handed-through r (Ok d) h e s = absurd h
