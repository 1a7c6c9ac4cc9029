-- The tick, case by case.
use Rattle.std.proofs.Common.{◌≡◌, ℕ, zero, suc, ◌+◌, ◌-◌, ◌<◌, ◌≤◌, Bool, true, false, cond, not, ◌&&◌, ◌||◌, eqb, length, sym, refl, ap, ◌∙◌, true≢false, add-one, arith, get_or-set_same, eq-eqb, ne_eqb}
use Rattle.std.proofs.lemmas.Bool.{and_right, or_parts}
use Rattle.rules.specs.declared.Task.{Task}
use Rattle.rules.specs.Sizes.{task_count}
use Rattle.rules.specs.Table.{Table, task_of, no_task, with_task, with_left}
use Rattle.rules.specs.Move.{put, rotate, ended, has_peer}
use Rattle.rules.specs.Time.{caller_of}
use Rattle.rules.specs.Tick.{turned, is_due, due_ended, due_below}
use Rattle.laws.specs.queues.Put.{put_out, put-stays, rotate_out, place_same}
use Rattle.tick.specs.Marks.{is_at, some_at}

-- ---- two tests at once, and a third

pub both_not : (a b p : Bool) → not (a && b) ≡ true → false ≡ a && (b && p)
both_not false b p e = refl
both_not true false p e = refl
both_not true true p e = absurd (true≢false (sym e))

pub both_are : (a b p : Bool) → not (a && b) ≡ false → p ≡ a && (b && p)
both_are false b p e = absurd (true≢false e)
both_are true false p e = absurd (true≢false e)
both_are true true p e = refl

same_all : (t : Table) (a b : Bool) → t ≡ cond a t (cond b t t)
same_all t true b = refl
same_all t false true = refl
same_all t false false = refl

-- ---- the turn of the running task

-- what the turn of task i, which has so much left, makes of the table u
abbrev of_turn : ℕ → ℕ → Table → Table
of_turn left i u = cond (eqb left 0 && (eqb u.depth 0 && has_peer i u)) (rotate i u) u

module _ (t : Table) {i : ℕ} (caller : i ≡ caller_of t) (size : length t.tasks ≡ task_count) where
  -- no task has that number: nothing is put and nothing goes behind
  pub turned_none : task_count ≤ i → t ≡ turned t
  unfolding turned
  turned_none l =
      rw (← caller, put_out i (with_left ((task_of t i).left - 1) (task_of t i)) t l, rotate_out i t l)
      (same_all t (eqb t.running 0) (eqb (task_of t i).left 0 && (eqb t.depth 0 && has_peer i t)))

  module _ (l : i < task_count) {r : ℕ} (runs : r ≡ t.running) where
    pub turned_not : r ≡ 0 → t ≡ turned t
    unfolding turned
    turned_not e = rw (eq-eqb t.running 0 (sym runs ∙ e))

    module _ {left : ℕ} {u : Table} {b : Bool} (less : left ≡ (task_of t i).left - 1) (stored : u ≡ with_task i (with_left left (task_of t i)) t)
        (over : b ≡ eqb left 0 && (eqb u.depth 0 && has_peer i u)) (goes : r ≡ 0 → ⊥) where
      -- no other field of the task changes, and no queue
      shorter : put i (with_left ((task_of t i).left - 1) (task_of t i)) t ≡ u
      shorter =
          ap (λ (n : ℕ). put i (with_left n (task_of t i)) t) (sym less)
          ∙ put-stays i (with_left left (task_of t i)) t l (sym (place_same (task_of t i) (with_left left (task_of t i)) refl refl refl refl)) refl
          ∙ sym stored

      now_left : (task_of u i).left ≡ left
      now_left = ap (λ (x : Table). (task_of x i).left) stored ∙ ap (λ (k : Task). k.left) (get_or-set_same t.tasks i (with_left left (task_of t i)) no_task (omega arith))

      turned_to : of_turn left i u ≡ turned t
      unfolding turned
      turned_to = rw (← caller, ne_eqb t.running 0 (λ e. goes (runs ∙ e)), shorter, now_left)

      pub turned-over : b ≡ true → rotate i u ≡ turned t
      turned-over e = rw (← over, e) at turned_to

      pub turned_on : b ≡ false → u ≡ turned t
      turned_on e = rw (← over, e) at turned_to

-- ---- the tasks that are due

module _ (i : ℕ) (t : Table) where
  pub due_not : is_due i t ≡ false → t ≡ due_ended i t
  unfolding due_ended
  due_not e = rw e

  pub due-delay : is_due i t ≡ true → (task_of t i).state ≡ 1 → ended 0 i t ≡ due_ended i t
  unfolding due_ended
  due-delay e d = rw (e, eq-eqb _ _ d)

  pub due-wait : is_due i t ≡ true → ((task_of t i).state ≡ 1 → ⊥) → ended 1 i t ≡ due_ended i t
  unfolding due_ended
  due-wait e d = rw (e, ne_eqb _ _ d)

  pub below_next : due_ended i (due_below i t) ≡ due_below (i + 1) t
  unfolding due_below
  below_next = rw add-one

pub below_none : (t : Table) → t ≡ due_below 0 t
unfolding due_below
below_none t = refl

-- ---- all of them at once

pub some_none : (now : ℕ) (t : Table) → false ≡ some_at 0 now t
unfolding some_at
some_none now t = refl

pub some_next : (n now : ℕ) (t : Table) → is_at n now t || some_at n now t ≡ some_at (n + 1) now t
unfolding some_at
some_next n now t = rw add-one

-- Where no mark is the tick, none is due.
pub none_due : (n : ℕ) (t : Table) → some_at n t.tick t ≡ false → t ≡ due_below n t
unfolding some_at due_below
none_due zero t e = refl
none_due (suc n) t e =
    let here = is_at n t.tick t in
    let others = some_at n t.tick t in
    let none = or_parts here others e in
    due_not n t (and_right (eqb (task_of t n).marked 1) here none.0) ∙ ap (due_ended n) (none_due n t none.1)
