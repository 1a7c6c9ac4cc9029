-- What a mutex's own calls keep.
use Rattle.std.specs.Prelude.{◌≡◌, refl, ◌⊎◌, ◌≢◌, ℕ, ◌+◌, ◌-◌, ◌≤◌, ◌<◌}
use Rattle.std.proofs.Common.{sym, subst, ◌∙◌, inl, inr, ⊎_elim, eq-eqb}
use native.Mathlib.Omega.{arith}
use Rattle.rules.specs.Sizes.{task_count, mutex_count, most_nested, ticks_round}
use Rattle.rules.specs.Table.{Table, nothing_asked, task_of, mutex_of, written, with_hold}
use Rattle.rules.specs.Decides.{equals, at_most}
use Rattle.rules.specs.Sound.{SoundMutex, Sound}
use Rattle.rules.specs.Time.{caller_of}
use Rattle.rules.specs.Mutex.{with_hold_of}
use Rattle.rules.specs.Mutex as mutex
use Rattle.rules.specs.declared.Mutex.{Mutex}
use Rattle.laws.specs.queues.Put.{pick}
use Rattle.laws.specs.chains.Graph.{Alike, held-alike}
use Rattle.laws.specs.keeps.Becomes.{caller-used}
use Rattle.laws.specs.keeps.Records.{asks_nothing}
use Rattle.laws.specs.keeps.Moves.{BeforeChoice, Stores, stored_keeps}
use Rattle.laws.specs.keeps.Release.{released_keeps}
use Rattle.laws.specs.numbers.Presumes.{not_not}
use Rattle.laws.specs.queues.Rows.{among-mutexes}
use Rattle.laws.specs.queues.Stands.{no_queue}
use Rattle.laws.specs.keeps.Objects.{HeldApart, may-apart, apart-may, held_right}
use Rattle.laws.specs.keeps.Families.{mutex_stores, mutex-unwaited, mutexes_lawful, waits_keeps}
use Rattle.laws.specs.keeps.Caller.{taken_keeps, midway, caller-task, runs-able}

module _ {t : Table} (s : Sound t) where
  -- A mutex is held by the task written v, n times over: it was free, or v held it.
  held_keeps : (m v n : ℕ) → m < mutex_count → (mutex_of t m).used ≡ 1 → v ≢ 0 → v ≤ task_count → 1 ≤ n → n ≤ most_nested → (task_of t (v - 1)).used ≡ 1
      → ((mutex_of t m).holder ≡ 0) ⊎ ((mutex_of t m).holder ≡ v)
      → BeforeChoice (with_hold_of m v n t)
  held_keeps m v n l used d r some most u was = stored_keeps (midway s) (⊎_elim free held was)
    where
      x : Mutex
      x = with_hold v n (mutex_of t m)

      right : SoundMutex x
      right = held_right (mutex_of t m) used v n d r some most

      free : (mutex_of t m).holder ≡ 0 → Stores t (with_hold_of m v n t) × Alike t (with_hold_of m v n t)
      free z = mutex-unwaited s.settled m x l right (λ e. u) (no_queue among-mutexes s.settled.queued m l s.settled.tasks s.settled.objects (inr (eq-eqb _ 0 z)))

      held : (mutex_of t m).holder ≡ v → Stores t (with_hold_of m v n t) × Alike t (with_hold_of m v n t)
      held e = (
        mutex_stores s.settled m x right
            (λ j k q o.
            let w = subst (λ (i : ℕ). HeldApart j (mutex_of t i)) o (may-apart t j _ k (s.settled.objects.waits j k _ among-mutexes q)) in
            record { used = used; held = d; apart = λ z. w.apart (e ∙ z) })
            (λ e. u),
        held-alike m x t (sym e),
      )

  module _ (m : ℕ) (c : t.running ≢ 0) (l : m < mutex_count) (u : (mutex_of t m).used ≡ 1) where
    pub wait_keeps : (limit : ℕ) → limit < ticks_round → ((mutex_of t m).holder ≡ written (caller_of t) → (mutex_of t m).nesting < most_nested)
        → ((mutex_of t m).holder ≢ 0 → (mutex_of t m).holder ≢ written (caller_of t) → t.depth ≡ 0)
        → BeforeChoice (mutex.wait m limit t)
    unfolding mutex.wait
    wait_keeps limit most room free =
        pick BeforeChoice (not_not equals)
        (λ z.
        taken_keeps {t = with_hold_of m (written (caller_of t)) 1 t}
        (held_keeps m _ 1 l u (omega arith) (omega (arith, (caller-task s))) (omega arith) (omega arith) (subst (λ (j : ℕ). (task_of t j).used ≡ 1) (omega arith) (caller-used t (runs-able s c))) (inl z))
        (caller-task s) (runs-able s c))
        (λ held.
        pick BeforeChoice equals
        (λ own.
        taken_keeps {t = with_hold_of m (mutex_of t m).holder ((mutex_of t m).nesting + 1) t}
        (held_keeps m _ _ l u held (s.settled.objects.mutexes m l).holder (omega arith) (omega (arith, room own)) (s.settled.objects.holders m l held) (inr refl))
        (caller-task s) (runs-able s c))
        (λ other.
        waits_keeps mutexes_lawful (midway s) m l limit nothing_asked most (asks_nothing (omega arith)) (caller-task s) (runs-able s c) (free held other)
        (apart-may t _ m (record { used = u; held = held; apart = other }))))

    pub post_keeps : (mutex_of t m).holder ≡ written (caller_of t) → BeforeChoice (mutex.post m t)
    unfolding mutex.post
    post_keeps own =
        pick BeforeChoice at_most
        (λ (some : 2 ≤ (mutex_of t m).nesting).
        let held : (mutex_of t m).holder ≢ 0 = λ z. omega arith in
        held_keeps m _ _ l u held (s.settled.objects.mutexes m l).holder (omega arith) (omega (arith, (s.settled.objects.mutexes m l).nesting)) (s.settled.objects.holders m l held) (inr refl))
        (λ none. released_keeps (midway s) m l u own)
