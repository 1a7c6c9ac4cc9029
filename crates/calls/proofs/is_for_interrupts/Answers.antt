use borrow.Author.Rules.{rules}
use mathlib.Core.Bool.{false}
use mathlib.Core.Path.{◌≡◌, refl, sym, ap}
use Prim.Native.Nat.{ℕ}
use mathlib.Core.List.{List, [], ◌∷◌}
use denote.Enum.Declared as Declared
use types.Run.{OneOf, miss}
use Rattle.rules.specs.contracts.Call as Call'
use Rattle.rules.specs.declared.Call.{Call}
use Rattle.rules.specs.declared.Call.TheVariants.{TaskCreate, TaskDelete, ChangePriority, Suspend, Resume, Yield, Delay, DelayResume, Lock, Unlock, Tick, SetDefaultQuantum, SemaphoreCreate, SemaphoreDelete, SemaphoreWait, SemaphorePost, SemaphoreAbort, MutexCreate, MutexDelete, MutexWait, MutexPost, MutexAbort, GroupCreate, GroupDelete, GroupWait, GroupPost, GroupAbort, ChannelCreate, ChannelDelete, ChannelWait, ChannelPost, ChannelAbort, ChannelFlush}
use Rattle.rules.specs.Kinds.{told_in, spelled}
use Rattle.rules.specs.Step.{for_interrupts}
use Rattle.calls.proofs.is_for_interrupts.Goals as goal

-- The numbers of the variants of `Call`, but for Tick, SemaphorePost, GroupPost and ChannelPost.
abbrev others : List ℕ
others = 0 ∷ 1 ∷ 2 ∷ 3 ∷ 4 ∷ 5 ∷ 6 ∷ 7 ∷ 8 ∷ 9 ∷ 11 ∷ 12 ∷ 13 ∷ 14 ∷ 16 ∷ 17 ∷ 18 ∷ 19 ∷ 20 ∷ 21 ∷ 22 ∷ 23 ∷ 24 ∷ 26 ∷ 27 ∷ 28 ∷ 29 ∷ 31 ∷ 32 ∷ []

other : (c : Call) → OneOf others (Declared.tag_of Call'.the_type c) → false ≡ for_interrupts c
unfolding told_in spelled for_interrupts
other (TaskCreate a b c) h = refl
other (TaskDelete a) h = refl
other (ChangePriority a b) h = refl
other (Suspend a) h = refl
other (Resume a) h = refl
other Yield h = refl
other (Delay a) h = refl
other (DelayResume a) h = refl
other Lock h = refl
other Unlock h = refl
other Tick h = absurd (miss others 10 tt h)
other (SetDefaultQuantum a) h = refl
other (SemaphoreCreate a b) h = refl
other (SemaphoreDelete a b) h = refl
other (SemaphoreWait a b c) h = refl
other (SemaphorePost a) h = absurd (miss others 15 tt h)
other (SemaphoreAbort a) h = refl
other (MutexCreate a) h = refl
other (MutexDelete a b) h = refl
other (MutexWait a b c) h = refl
other (MutexPost a) h = refl
other (MutexAbort a) h = refl
other (GroupCreate a b) h = refl
other (GroupDelete a b) h = refl
other (GroupWait a b c d e f) h = refl
other (GroupPost a b c) h = absurd (miss others 25 tt h)
other (GroupAbort a) h = refl
other (ChannelCreate a b) h = refl
other (ChannelDelete a b) h = refl
other (ChannelWait a b c) h = refl
other (ChannelPost a b c) h = absurd (miss others 30 tt h)
other (ChannelAbort a) h = refl
other (ChannelFlush a) h = refl

pub returns-in-Tick : goal.returns-in-Tick
unfolding told_in spelled for_interrupts
returns-in-Tick c = sym (ap for_interrupts c.in-Tick.is)

pub returns-in-SemaphorePost : goal.returns-in-SemaphorePost
unfolding told_in spelled for_interrupts
returns-in-SemaphorePost c = sym (ap for_interrupts c.in-SemaphorePost.is)

pub returns-in-GroupPost : goal.returns-in-GroupPost
unfolding told_in spelled for_interrupts
returns-in-GroupPost c = sym (ap for_interrupts c.in-GroupPost.is)

pub returns-in-ChannelPost : goal.returns-in-ChannelPost
unfolding told_in spelled for_interrupts
returns-in-ChannelPost c = sym (ap for_interrupts c.in-ChannelPost.is)

pub returns-in_default : goal.returns-in_default
unfolding told_in spelled for_interrupts
returns-in_default c = other c.args.c (search rules)
