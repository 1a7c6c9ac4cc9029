-- Every call leaves a sound table sound, and its answer is not 15. The fresh table is sound.
use Rattle.std.specs.Prelude.{◌≡◌, refl, ◌≢◌, Bool}
use Rattle.std.proofs.Common.{arith}
use Rattle.queue.specs.Order.{count, may_precede, fits, is_ordered}
use Rattle.rules.specs.Sizes.{not_sound}
use Rattle.rules.specs.Chain.{leads, smallest, fresh}
use Rattle.rules.specs.Table.{Table, fresh_table, is_able, works, with_running, holder_of}
use Rattle.rules.specs.Decides.{itself}
use Rattle.rules.specs.Move.{next, fresh_in, chosen}
use Rattle.rules.specs.Ready.{levels_below}
use Rattle.rules.specs.Sound.{Sound, each, is_shaped, marks_in, is_task_in_range, is_no_task, is_no_semaphore, is_no_mutex, is_no_group, is_no_channel, asks_in, is_sound_task, is_sound_semaphore, is_sound_mutex, is_sound_group, is_sound_channel, may_wait, is_sound_wait, each_of, is_sound_objects, is_sound_ready, is_sound_queues, is_worked_out, is_sound_numbers, is_sound_within, is_sound_runs, is_sound, SoundWithin, NotDue}
use Rattle.rules.specs.Family.{of_state, place_of}
use Rattle.rules.proofs.Tested.{sound-tested, tested-sound}
use Rattle.rules.specs.Step.{effect, Bounded, serve, step}
use Rattle.rules.specs.declared.Call.{Call}
use Rattle.laws.specs.queues.Put.{pick}
use Rattle.laws.specs.keeps.Running.{chosen-runs, chosen_one}
use Rattle.laws.specs.keeps.Moves.{BeforeChoice, framed-settled}
use Rattle.laws.specs.numbers.Presumes.{accepts}
use Rattle.laws.specs.keeps.Calls.{change_keeps}

-- ---- the choice of the running task

-- Once the running task is chosen, the table is sound.
pub chosen-sound : {t : Table} → BeforeChoice t → Sound (chosen t)
chosen-sound {t} u =
    let h = u.settled in
    record {
      settled = chosen_one SoundWithin t h (λ n. framed-settled h (with_running n t) (omega (arith, h.numbers)));
      not_due = chosen_one NotDue t u.not_due (λ n. u.not_due);
      runs = chosen-runs h.queued h.tasks u.runs;
    }

-- ---- a call

module _ {t : Table} (s : Sound t) (c : Call) where
  -- A call that is served leaves the table sound.
  pub serve-sound : Bounded c → (interrupt : Bool) → Sound (serve c interrupt t).table
  unfolding serve effect
  serve-sound b interrupt = pick Sound itself (λ e. chosen-sound (change_keeps s c b ((accepts c interrupt t).holds e))) (λ e. s)

  -- On a sound table the kernel serves the call.
  pub step-serve : (interrupt : Bool) → step c interrupt t ≡ serve c interrupt t
  unfolding step
  step-serve interrupt = rw (sound-tested s)

  -- A step of the kernel leaves the table sound.
  pub step-sound : Bounded c → (interrupt : Bool) → Sound (step c interrupt t).table
  step-sound b interrupt = rw (step-serve interrupt) (serve-sound b interrupt)

-- No call that is served is answered 15.
pub serve_not_15 : (c : Call) (interrupt : Bool) (t : Table) → (serve c interrupt t).answer ≢ not_sound
unfolding serve
serve_not_15 c interrupt t = (accepts c interrupt t).served

-- ---- the fresh table

-- The fresh table is sound.
pub fresh-sound : Sound fresh_table
unfolding count may_precede fits is_ordered leads smallest fresh fresh_table is_able place_of works holder_of next fresh_in each is_shaped of_state marks_in is_task_in_range is_no_task is_no_semaphore is_no_mutex is_no_group is_no_channel asks_in is_sound_task is_sound_semaphore is_sound_mutex is_sound_group is_sound_channel may_wait each_of is_sound_wait is_sound_objects levels_below is_sound_ready is_sound_queues is_worked_out is_sound_numbers is_sound_within is_sound_runs is_sound
fresh-sound = tested-sound fresh_table refl
