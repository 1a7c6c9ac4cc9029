-- The numbers of the paper for what a service answers.
use Rattle.std.specs.Prelude.{◌≡◌, refl, true, false, Result, Ok, Err, ℕ}
use Rattle.rules.specs.Sizes.{done, beyond_range, not_in_use, in_use, bad_value, none_running, while_locked, nothing_to_take, not_its_holder, nested_too_deep, count_full, not_locked, still_needed, blocks, channel_full, not_suspended, not_delayed, no_waiter, no_peer}
use Rattle.rules.specs.Step.{changes}
use Rattle.service.specs.declared.answers.Done.{Done}
use Rattle.service.specs.declared.answers.Done.TheVariants.{Now, Waits}
use Rattle.service.specs.declared.answers.Refusal.{Refusal}
use Rattle.service.specs.declared.answers.Refusal.TheVariants.{BeyondRange, NotInUse, InUse, BadValue, NoneRunning, WhileLocked, NothingToTake, NotItsHolder, NestedTooDeep, CountFull, NotLocked, StillNeeded, ChannelFull, NotSuspended, NotDelayed, NoWaiter, NoPeer}

-- "0: done"; "14: a wait is accepted and blocks"
abbrev pub done_number : Done → ℕ
done_number Now = done
done_number Waits = blocks

abbrev pub refusal_number : Refusal → ℕ
refusal_number BeyondRange = beyond_range
refusal_number NotInUse = not_in_use
refusal_number InUse = in_use
refusal_number BadValue = bad_value
refusal_number NoneRunning = none_running
refusal_number WhileLocked = while_locked
refusal_number NothingToTake = nothing_to_take
refusal_number NotItsHolder = not_its_holder
refusal_number NestedTooDeep = nested_too_deep
refusal_number CountFull = count_full
refusal_number NotLocked = not_locked
refusal_number StillNeeded = still_needed
refusal_number ChannelFull = channel_full
refusal_number NotSuspended = not_suspended
refusal_number NotDelayed = not_delayed
refusal_number NoWaiter = no_waiter
refusal_number NoPeer = no_peer

abbrev pub number_of : Result Done Refusal → ℕ
number_of (Ok d) = done_number d
number_of (Err r) = refusal_number r

-- What is not refused changes something,
pub done-changes : (d : Done) → changes (done_number d) ≡ true
done-changes Now = refl
done-changes Waits = refl

-- and no refusal does.
pub refusal-keeps : (r : Refusal) → changes (refusal_number r) ≡ false
refusal-keeps BeyondRange = refl
refusal-keeps NotInUse = refl
refusal-keeps InUse = refl
refusal-keeps BadValue = refl
refusal-keeps NoneRunning = refl
refusal-keeps WhileLocked = refl
refusal-keeps NothingToTake = refl
refusal-keeps NotItsHolder = refl
refusal-keeps NestedTooDeep = refl
refusal-keeps CountFull = refl
refusal-keeps NotLocked = refl
refusal-keeps StillNeeded = refl
refusal-keeps ChannelFull = refl
refusal-keeps NotSuspended = refl
refusal-keeps NotDelayed = refl
refusal-keeps NoWaiter = refl
refusal-keeps NoPeer = refl

-- What a check says: the answer of a call whose answer is n where the check is passed.
abbrev pub answer_after : {A : Type 0} → Result A Refusal → ℕ → ℕ
answer_after (Ok x) n = n
answer_after (Err r) n = refusal_number r
