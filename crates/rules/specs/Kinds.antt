-- The list of kinds, for the tape, for the port and for who may call: a call's kind is a row, and what goes by the kind is looked up here.
use Rattle.std.specs.Prelude.{Bool, true, false, cond, List, [], ◌∷◌, ℕ, ◌-◌, eqb, leb, get_or, drop, Some, None}
use Rattle.rules.specs.declared.Call.{Call}
use Rattle.rules.specs.declared.Call.TheVariants.{TaskCreate, TaskDelete, ChangePriority, Suspend, Resume, Yield, Delay, DelayResume, Lock, Unlock, Tick, SetDefaultQuantum, SemaphoreCreate, SemaphoreDelete, SemaphoreWait, SemaphorePost, SemaphoreAbort, MutexCreate, MutexDelete, MutexWait, MutexPost, MutexAbort, GroupCreate, GroupDelete, GroupWait, GroupPost, GroupAbort, ChannelCreate, ChannelDelete, ChannelWait, ChannelPost, ChannelAbort, ChannelFlush}
use Rattle.rules.specs.declared.Reading.{Reading}

-- ---- a kind

-- Its byte; how many bytes of the tape each number of its body takes; whether an interrupt may make it; and the call that it says with the
-- numbers n 0, n 1 and so on.
pub record Kind : Type 0 where
  pub byte : ℕ
  pub widths : List ℕ
  pub interrupts : Bool
  pub call : (ℕ → ℕ) → Call

-- A call that tasks alone may make, and one that an interrupt may make too: "made by an interrupt, and not a tick or a semaphore post": 5
abbrev pub by_tasks : ℕ → List ℕ → ((ℕ → ℕ) → Call) → Kind
by_tasks byte widths call = record { byte = byte; widths = widths; interrupts = false; call = call }

abbrev pub by_all : ℕ → List ℕ → ((ℕ → ℕ) → Call) → Kind
by_all byte widths call = record { byte = byte; widths = widths; interrupts = true; call = call }

-- The kind of the call that has a further result.
abbrev pub flush_kind : ℕ
flush_kind = 0x45

-- "01 task create (number, base, quantum 2 bytes); 02 delete (number); 03 change priority (number, base); 04 suspend; 05 resume (number
-- each); 06 yield; 07 delay (4 bytes); 08 delay resume (number); 09 lock; 0A unlock; 0B tick; 10 semaphore create (number, count 4 bytes);
-- 11 delete (number, force); 12 wait (number, block, limit 4 bytes); 13 post; 14 abort (number each); 20 mutex create (number); 21 delete,
-- 22 wait as 11, 12; 23 post; 24 abort (number each)." And of groups of flags 30 create (number, flags 4 bytes); 31 delete as 11; 32 wait
-- (number, block, limit 4 bytes, mask 4 bytes, test, consume); 33 post (number, mask 4 bytes, 1 set or 0 clear); 34 abort (number). And 0D
-- default quantum (2 bytes). And of channels 40 create (number, capacity); 41 delete, 42 wait as 11, 12; 43 post (number, message 4 bytes, 1 front or
-- 0 end); 44 abort; 45 flush (number each).
abbrev pub kinds : List Kind
kinds =
    by_tasks 0x01 (1 ∷ 1 ∷ 2 ∷ []) (λ n. TaskCreate (n 0) (n 1) (n 2))
    ∷ by_tasks 0x02 (1 ∷ []) (λ n. TaskDelete (n 0))
    ∷ by_tasks 0x03 (1 ∷ 1 ∷ []) (λ n. ChangePriority (n 0) (n 1))
    ∷ by_tasks 0x04 (1 ∷ []) (λ n. Suspend (n 0))
    ∷ by_tasks 0x05 (1 ∷ []) (λ n. Resume (n 0))
    ∷ by_tasks 0x06 [] (λ n. Yield)
    ∷ by_tasks 0x07 (4 ∷ []) (λ n. Delay (n 0))
    ∷ by_tasks 0x08 (1 ∷ []) (λ n. DelayResume (n 0))
    ∷ by_tasks 0x09 [] (λ n. Lock)
    ∷ by_tasks 0x0A [] (λ n. Unlock)
    ∷ by_all 0x0B [] (λ n. Tick)
    ∷ by_tasks 0x0D (2 ∷ []) (λ n. SetDefaultQuantum (n 0))
    ∷ by_tasks 0x10 (1 ∷ 4 ∷ []) (λ n. SemaphoreCreate (n 0) (n 1))
    ∷ by_tasks 0x11 (1 ∷ 1 ∷ []) (λ n. SemaphoreDelete (n 0) (n 1))
    ∷ by_tasks 0x12 (1 ∷ 1 ∷ 4 ∷ []) (λ n. SemaphoreWait (n 0) (n 1) (n 2))
    ∷ by_all 0x13 (1 ∷ []) (λ n. SemaphorePost (n 0))
    ∷ by_tasks 0x14 (1 ∷ []) (λ n. SemaphoreAbort (n 0))
    ∷ by_tasks 0x20 (1 ∷ []) (λ n. MutexCreate (n 0))
    ∷ by_tasks 0x21 (1 ∷ 1 ∷ []) (λ n. MutexDelete (n 0) (n 1))
    ∷ by_tasks 0x22 (1 ∷ 1 ∷ 4 ∷ []) (λ n. MutexWait (n 0) (n 1) (n 2))
    ∷ by_tasks 0x23 (1 ∷ []) (λ n. MutexPost (n 0))
    ∷ by_tasks 0x24 (1 ∷ []) (λ n. MutexAbort (n 0))
    ∷ by_tasks 0x30 (1 ∷ 4 ∷ []) (λ n. GroupCreate (n 0) (n 1))
    ∷ by_tasks 0x31 (1 ∷ 1 ∷ []) (λ n. GroupDelete (n 0) (n 1))
    ∷ by_tasks 0x32 (1 ∷ 1 ∷ 4 ∷ 4 ∷ 1 ∷ 1 ∷ []) (λ n. GroupWait (n 0) (n 1) (n 2) (n 3) (n 4) (n 5))
    ∷ by_all 0x33 (1 ∷ 4 ∷ 1 ∷ []) (λ n. GroupPost (n 0) (n 1) (n 2))
    ∷ by_tasks 0x34 (1 ∷ []) (λ n. GroupAbort (n 0))
    ∷ by_tasks 0x40 (1 ∷ 1 ∷ []) (λ n. ChannelCreate (n 0) (n 1))
    ∷ by_tasks 0x41 (1 ∷ 1 ∷ []) (λ n. ChannelDelete (n 0) (n 1))
    ∷ by_tasks 0x42 (1 ∷ 1 ∷ 4 ∷ []) (λ n. ChannelWait (n 0) (n 1) (n 2))
    ∷ by_all 0x43 (1 ∷ 4 ∷ 1 ∷ []) (λ n. ChannelPost (n 0) (n 1) (n 2))
    ∷ by_tasks 0x44 (1 ∷ []) (λ n. ChannelAbort (n 0))
    ∷ by_tasks flush_kind (1 ∷ []) (λ n. ChannelFlush (n 0))
    ∷ []

-- What is told of the kind with the byte k; `lacking` where the list has none.
unfoldable pub told_in : {A : Type 0} → List Kind → ℕ → (Kind → A) → A → A
told_in [] k told lacking = lacking
told_in (r ∷ rs) k told lacking = cond (eqb k r.byte) (told r) (told_in rs k told lacking)

abbrev pub told_of : {A : Type 0} → ℕ → (Kind → A) → A → A
told_of k told lacking = told_in kinds k told lacking

-- "a body whose length the kind fixes": how many bytes each of its numbers has.
unfoldable pub widths : ℕ → List ℕ
widths k = told_of k (λ r. r.widths) []

-- ---- from a kind byte and numbers to a call

-- "Kind plus 80h: made by an interrupt."
abbrev pub interrupt_bit : ℕ
interrupt_bit = 0x80

abbrev pub is_interrupt : ℕ → Bool
is_interrupt kind = leb interrupt_bit kind

abbrev pub plain_kind : ℕ → ℕ
plain_kind kind = cond (is_interrupt kind) (kind - interrupt_bit) kind

-- A reading of a call, and of none.
abbrev pub says_call : Call → Bool → Reading
says_call c interrupt = record { call = Some c; interrupt = interrupt }

abbrev pub says_none : Bool → Reading
says_none interrupt = record { call = None; interrupt = interrupt }

-- The call of the kind k with these numbers, or that the list lacks k. "The kind is a byte as on the tape, numbers have 32 bits; those a
-- kind does not use are not looked at."
unfoldable pub of_kind : ℕ → List ℕ → Bool → Reading
of_kind k numbers interrupt = told_of k (λ r. says_call (r.call (λ i. get_or numbers i 0)) interrupt) (says_none interrupt)

unfoldable pub reading : ℕ → List ℕ → Reading
reading kind numbers = of_kind (plain_kind kind) numbers (is_interrupt kind)

-- ---- from a call to its kind and numbers

-- A call's kind byte and then its numbers, in the order of the tape.
unfoldable pub spelled : Call → List ℕ
spelled (TaskCreate i base quantum) = 0x01 ∷ i ∷ base ∷ quantum ∷ []
spelled (TaskDelete i) = 0x02 ∷ i ∷ []
spelled (ChangePriority i base) = 0x03 ∷ i ∷ base ∷ []
spelled (Suspend i) = 0x04 ∷ i ∷ []
spelled (Resume i) = 0x05 ∷ i ∷ []
spelled Yield = 0x06 ∷ []
spelled (Delay n) = 0x07 ∷ n ∷ []
spelled (DelayResume i) = 0x08 ∷ i ∷ []
spelled Lock = 0x09 ∷ []
spelled Unlock = 0x0A ∷ []
spelled Tick = 0x0B ∷ []
spelled (SetDefaultQuantum n) = 0x0D ∷ n ∷ []
spelled (SemaphoreCreate s n) = 0x10 ∷ s ∷ n ∷ []
spelled (SemaphoreDelete s force) = 0x11 ∷ s ∷ force ∷ []
spelled (SemaphoreWait s block limit) = 0x12 ∷ s ∷ block ∷ limit ∷ []
spelled (SemaphorePost s) = 0x13 ∷ s ∷ []
spelled (SemaphoreAbort s) = 0x14 ∷ s ∷ []
spelled (MutexCreate m) = 0x20 ∷ m ∷ []
spelled (MutexDelete m force) = 0x21 ∷ m ∷ force ∷ []
spelled (MutexWait m block limit) = 0x22 ∷ m ∷ block ∷ limit ∷ []
spelled (MutexPost m) = 0x23 ∷ m ∷ []
spelled (MutexAbort m) = 0x24 ∷ m ∷ []
spelled (GroupCreate g flags) = 0x30 ∷ g ∷ flags ∷ []
spelled (GroupDelete g force) = 0x31 ∷ g ∷ force ∷ []
spelled (GroupWait g block limit mask test consume) = 0x32 ∷ g ∷ block ∷ limit ∷ mask ∷ test ∷ consume ∷ []
spelled (GroupPost g mask on) = 0x33 ∷ g ∷ mask ∷ on ∷ []
spelled (GroupAbort g) = 0x34 ∷ g ∷ []
spelled (ChannelCreate c capacity) = 0x40 ∷ c ∷ capacity ∷ []
spelled (ChannelDelete c force) = 0x41 ∷ c ∷ force ∷ []
spelled (ChannelWait c block limit) = 0x42 ∷ c ∷ block ∷ limit ∷ []
spelled (ChannelPost c message front) = 0x43 ∷ c ∷ message ∷ front ∷ []
spelled (ChannelAbort c) = 0x44 ∷ c ∷ []
spelled (ChannelFlush c) = flush_kind ∷ c ∷ []

abbrev pub kind_of : Call → ℕ
kind_of c = get_or (spelled c) 0 0

abbrev pub numbers_of : Call → List ℕ
numbers_of c = drop 1 (spelled c)
