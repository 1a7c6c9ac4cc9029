-- What is tested together is the standing rules.
use Rattle.std.specs.Prelude.{◌≡◌, refl, Option, Some, None, unwrap_or, Bool, true, false, cond, not, ◌&&◌, ◌||◌, List, ℕ, ◌+◌, ◌-◌, ◌≤◌, ◌<◌, eqb, leb}
use Rattle.std.proofs.Common.{ap, sym, ◌∙◌, pos_of_ne-zero, arith, eq-eqb, ne_eqb}
use Rattle.std.proofs.Math.Bool.{and-true}
use Rattle.rules.specs.Sizes.{task_count, semaphore_count, mutex_count, group_count, channel_count, most_nested, most_quantum, ticks_round}
use Rattle.rules.specs.Table.{Table, task_of, semaphore_of, mutex_of, group_of, channel_of, row_of, queue_count, able_queue, first_in, is_able}
use Rattle.rules.specs.Sound.{Each, each, Shaped, SoundTasks, SoundQueues, is_sound_task, is_sound_semaphore, is_sound_mutex, is_sound_group, is_sound_channel, is_sound_ready, is_sound_queues, is_worked_out, SoundNumbers, is_sound_numbers, is_sound_runs, is_sound_objects, is_sound_within, is_sound}
use Rattle.rules.proofs.Tested.{queued, numbers_right}
use Rattle.rules.specs.Decides.{Decides, same_test, equals, at_most, itself, fails, first, last, both, each_one}
use Rattle.sound.specs.Ready.{worded, word_apart}
use Rattle.sound.specs.Rows.{are_not_due, are_tasks_sound, are_objects_sound}
use Rattle.sound.specs.Packed.{leads, frees, slot_count, packed_all, ordered-packed}
use Rattle.sound.specs.Queues.{Spotted, spots_at, is_lined, is_met, queues-say}
use Rattle.sound.specs.Waits.{Waits, HoldersUsed, is_front_sound, is_holder_sound, are_waits_sound, are_holders_used, waits-say, waits_right}
use Rattle.sound.specs.Walks.{is_passed, AllWalked}

-- ---- the queues

-- The rules' own: the queues, who waits, who holds; apart from the word.
abbrev pub are_queues_sound : Table → Bool
are_queues_sound t = is_sound_queues (worded t) && (are_waits_sound t && are_holders_used t)

each_both : (n : ℕ) (p q : ℕ → Bool) → each n (λ i. p i && q i) ≡ each n p && each n q
each_both n p q = same_test pairs (first (λ r i l. (r i l).0) (each_one λ i l. itself) λ x. last (λ r i l. (r i l).1) (each_one λ i l. itself) λ y i l. (x i l, y i l))
  where
    pairs : Decides (each n (λ i. p i && q i)) (Each n (λ i. (p i ≡ true) × (q i ≡ true)))
    pairs = each_one λ i l. both itself itself

passed_both : (spots : List ℕ) (t : Table) → each queue_count (is_passed spots t) ≡ each queue_count (is_lined spots t) && each queue_count (is_front_sound t)
unfolding is_passed
passed_both spots t = each_both queue_count (is_lined spots t) (is_front_sound t)

turned : (l f p m h : Bool) → (l && f) && (p && (m && h)) ≡ p && ((l && m) && (f && h))
turned false f true m h = refl
turned false f false m h = refl
turned true false true true h = refl
turned true false true false h = refl
turned true false false m h = refl
turned true true true m h = refl
turned true true false m h = refl

module _ {t : Table} {spots : List ℕ} (shaped : Shaped t) (tasks : SoundTasks t) (spotted : Spotted t task_count spots) where
  abbrev are_lined : Bool
  are_lined = each queue_count (is_lined spots t)

  abbrev are_fronts_sound : Bool
  are_fronts_sound = each queue_count (is_front_sound t)

  abbrev are_packed : Bool
  are_packed = eqb (leads queue_count t + frees queue_count t) slot_count

  abbrev are_met : List ℕ → Bool
  are_met after = each task_count (is_met after)

  abbrev are_holders_sound : Bool
  are_holders_sound = each mutex_count (is_holder_sound t)

  told : {r : Option ℕ} {after : List ℕ} → AllWalked t spots r after
      → eqb (unwrap_or r (slot_count + 1) + frees queue_count t) slot_count && (are_met after && are_holders_sound) ≡ each queue_count (is_passed spots t) && (are_packed && (are_met (spots_at spots t queue_count) && are_holders_sound))
  told {r} {after} w = go (each queue_count (is_passed spots t)) w.filled w.left
    where
      go : (b : Bool) → r ≡ cond b (Some (leads queue_count t)) None → (b ≡ true → after ≡ spots_at spots t queue_count)
          → eqb (unwrap_or r (slot_count + 1) + frees queue_count t) slot_count && (are_met after && are_holders_sound) ≡ b && (are_packed && (are_met (spots_at spots t queue_count) && are_holders_sound))
      go true e f = rw (e, f refl)
      go false e f = rw (e, ne_eqb (slot_count + 1 + frees queue_count t) slot_count (λ z. omega arith))

  say : Decides (are_packed && ((are_lined && are_met (spots_at spots t queue_count)) && (are_fronts_sound && are_holders_sound))) (SoundQueues (worded t) × (Waits t × HoldersUsed t))
  say =
      first (λ r q h. ordered-packed (r.0.ordered q h)) (packed_all t shaped.slots) λ packed.
      first (λ r. r.0) (queues-say shaped tasks spotted packed) λ s.
      last (λ r. r.1) (waits-say t tasks s) λ w.
      (s, w)

  -- What the code tests of the queues.
  pub queues-told : {r : Option ℕ} {after : List ℕ} → AllWalked t spots r after
      → eqb (unwrap_or r (slot_count + 1) + frees queue_count t) slot_count && (each task_count (is_met after) && each mutex_count (is_holder_sound t)) ≡ are_queues_sound t
  queues-told w =
      told w
      ∙ ap (λ (b : Bool). b && (are_packed && (are_met (spots_at spots t queue_count) && are_holders_sound))) (passed_both spots t)
      ∙ turned are_lined are_fronts_sound are_packed (are_met (spots_at spots t queue_count)) are_holders_sound
      ∙ same_test say (both (queued (worded t)) (waits_right t))

  -- A queue that does not pass.
  pub queues-refused : {after : List ℕ} → AllWalked t spots None after → false ≡ are_queues_sound t
  queues-refused {after} w =
      ap (λ (b : Bool). b && (are_met after && are_holders_sound)) (sym (ne_eqb (slot_count + 1 + frees queue_count t) slot_count (λ z. omega arith)))
      ∙ queues-told w

-- ---- the single numbers, and who runs

-- As the code asks, of numbers that fit their bytes.
pub numbers-row : (t : Table) → t.tick < ticks_round → t.default_quantum ≤ most_quantum → not (eqb t.default_quantum 0) && leb t.depth most_nested ≡ is_sound_numbers t
numbers-row t tick most =
    same_test
    (first some (fails equals) λ least.
    last (λ r. r.depth) at_most λ depth.
    record { tick = tick; default_least = pos_of_ne-zero least; default_most = most; depth = depth })
    (numbers_right t)
  where
    some : SoundNumbers t → t.default_quantum ≡ 0 → ⊥
    some r z = omega (arith, r.default_least)

unfoldable pub may_run : Table → ℕ → Bool
may_run t v = leb v task_count && (eqb v 0 || is_able (task_of t (v - 1)))

module _ (t : Table) where
  pub runs-unlocked : t.depth ≡ 0 → leb t.running task_count && eqb t.running (first_in able_queue t) ≡ is_sound_runs t
  unfolding is_sound_runs
  runs-unlocked e = rw (eq-eqb t.depth 0 e, and-true)

  pub runs-locked : (t.depth ≡ 0 → ⊥) → may_run t t.running ≡ is_sound_runs t
  unfolding is_sound_runs may_run
  runs-locked n = rw (ne_eqb t.depth 0 n)

-- ---- all of it

-- The tests in the order of the code and in that of the rules.
reordered : (tasks not_due semaphores mutexes groups channels queues word waits holders works numbers runs : Bool)
    → (tasks && not_due) && ((semaphores && (mutexes && (groups && channels))) && ((queues && (waits && holders)) && (word && (works && (numbers && runs)))))
    ≡ ((queues && word) && (works && (tasks && ((semaphores && (mutexes && (groups && (channels && (waits && holders))))) && numbers)))) && (not_due && runs)
reordered tasks not_due semaphores mutexes groups channels queues word waits holders works numbers runs =
    same_test
    (both (both (is tasks) (is not_due)) (both (both (is semaphores) (both (is mutexes) (both (is groups) (is channels)))) (both (both (is queues) (both (is waits) (is holders))) (both (is word) (both (is works) (both (is numbers) (is runs)))))))
    (last
    (λ ((ts, nd), ((se, (mu, (gr, ch))), ((qs, (wa, ho)), (rd, (wo, (nu, ru)))))). (((qs, rd), (wo, (ts, ((se, (mu, (gr, (ch, (wa, ho))))), nu)))), (nd, ru)))
    (both (both (both (is queues) (is word)) (both (is works) (both (is tasks) (both (both (is semaphores) (both (is mutexes) (both (is groups) (both (is channels) (both (is waits) (is holders)))))) (is numbers))))) (both (is not_due) (is runs)))
    (λ (((qs, rd), (wo, (ts, ((se, (mu, (gr, (ch, (wa, ho))))), nu)))), (nd, ru)). ((ts, nd), ((se, (mu, (gr, ch))), ((qs, (wa, ho)), (rd, (wo, (nu, ru))))))))
  where
    is : (b : Bool) → Decides b (b ≡ true)
    is b = itself

sound_parts : (t : Table) → are_tasks_sound t && (are_objects_sound t && (are_queues_sound t && (is_sound_ready t && (is_worked_out t && (is_sound_numbers t && is_sound_runs t))))) ≡ is_sound t
unfolding is_sound is_sound_within is_sound_objects
sound_parts t =
    rw (← word_apart t)
    (reordered
    (each task_count (λ i. is_sound_task (task_of t i)))
    (are_not_due t)
    (each semaphore_count (λ i. is_sound_semaphore (semaphore_of t i)))
    (each mutex_count (λ i. is_sound_mutex (mutex_of t i)))
    (each group_count (λ i. is_sound_group (group_of t i)))
    (each channel_count (λ i. is_sound_channel (channel_of t i) (row_of t i)))
    (is_sound_queues (worded t))
    (is_sound_ready t)
    (are_waits_sound t)
    (are_holders_used t)
    (is_worked_out t)
    (is_sound_numbers t)
    (is_sound_runs t))

-- What the tests of the tasks, of the objects and of the queues told.
module _ (t : Table) where
  abbrev pub others : Bool
  others = is_sound_ready t && (is_worked_out t && (is_sound_numbers t && is_sound_runs t))

  pub sound-told : {tasks objects queues : Bool} → are_tasks_sound t ≡ tasks → are_objects_sound t ≡ objects → are_queues_sound t ≡ queues → tasks && (objects && (queues && others)) ≡ is_sound t
  sound-told e f g = rw (← e, ← f, ← g) (sound_parts t)
