-- What a semaphore's own calls keep.
use Rattle.std.specs.Prelude.{◌≡◌, ◌≢◌, ℕ, ◌-◌, ◌≤◌, ◌<◌}
use Rattle.std.proofs.Math.Path.{refl}
use Rattle.std.proofs.Common.{inr, lt-ltb}
use native.Mathlib.Omega.{arith}
use Rattle.rules.specs.Sizes.{semaphore_count, most_count, ticks_round, given}
use Rattle.rules.specs.Table.{Table, nothing_asked, semaphore_of, semaphore_queue, with_semaphore}
use Rattle.rules.specs.Decides.{equals, at_most}
use Rattle.rules.specs.Sound.{Empty, Sound}
use Rattle.rules.specs.Family.{semaphores}
use Rattle.rules.specs.Semaphore.{with_count_of}
use Rattle.rules.specs.Semaphore as semaphore
use Rattle.rules.specs.declared.Semaphore.{Semaphore}
use Rattle.laws.specs.queues.Put.{pick, pick_not}
use Rattle.laws.specs.keeps.Records.{asks_nothing}
use Rattle.laws.specs.keeps.Moves.{BeforeChoice, ended_keeps, stored_keeps}
use Rattle.laws.specs.queues.Rows.{among-semaphores}
use Rattle.laws.specs.queues.Stands.{no_queue}
use Rattle.laws.specs.keeps.Objects.{awaited-may}
use Rattle.laws.specs.keeps.Families.{semaphore_unwaited, waiter_of, semaphores_lawful, waits_keeps}
use Rattle.laws.specs.keeps.Caller.{taken_keeps, midway, caller-task, runs-able}

module _ {t : Table} (s : Sound t) where
  -- A semaphore for which nobody waits becomes x, in use.
  pub counting_keeps : (o : ℕ) (x : Semaphore) → o < semaphore_count → x.used ≡ 1 → x.count ≤ most_count → Empty (semaphore_queue o) t → BeforeChoice (with_semaphore o x t)
  counting_keeps o x l u m z = stored_keeps (midway s) (semaphore_unwaited s.settled o x l (record { used = omega arith; count = m; free = λ e. absurd (omega arith) }) z)

  pub wait_keeps : (o limit : ℕ) → limit < ticks_round → t.running ≢ 0 → o < semaphore_count → (semaphore_of t o).used ≡ 1 → ((semaphore_of t o).count ≡ 0 → t.depth ≡ 0)
      → BeforeChoice (semaphore.wait o limit t)
  unfolding semaphore.wait
  wait_keeps o limit most c l u free =
      pick BeforeChoice at_most
      (λ (some : 1 ≤ (semaphore_of t o).count).
      let z = no_queue among-semaphores s.settled.queued o l s.settled.tasks s.settled.objects (inr (lt-ltb 0 _ some)) in
      taken_keeps {t = with_count_of o ((semaphore_of t o).count - 1) t} (counting_keeps o _ l u (omega (arith, (s.settled.objects.semaphores o l).count)) z) (caller-task s) (runs-able s c))
      (λ (n : 1 ≤ (semaphore_of t o).count → ⊥).
      let none : (semaphore_of t o).count ≡ 0 = omega arith in
      waits_keeps semaphores_lawful (midway s) o l limit nothing_asked most (asks_nothing (omega arith)) (caller-task s) (runs-able s c) (free none) (awaited-may t _ o semaphores (semaphore_of t o).count refl refl (caller-task s) (record { in_use = u; none = none })))

  pub post_keeps : (o : ℕ) → o < semaphore_count → (semaphore_of t o).used ≡ 1 → (semaphore_of t o).count < most_count → BeforeChoice (semaphore.post o t)
  unfolding semaphore.post
  post_keeps o l u m =
      pick_not BeforeChoice equals
      (λ some. ended_keeps (midway s) (waiter_of semaphores_lawful s.settled o l some) given (omega arith))
      (λ none. counting_keeps o _ l u (omega arith) none)
