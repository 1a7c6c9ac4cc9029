-- What the calls of a group of flags keep that are its own.
use Rattle.std.specs.Prelude.{◌≡◌, ◌≢◌, true, ℕ, zero, suc, ◌+◌, ◌-◌, ◌≤◌, ◌<◌, eqb, ltb}
use Rattle.std.proofs.Common.{ap, ◌∙◌, arith}
use Rattle.std.specs.Int.Bits.{bit_and, bit_or, and_lt}
use Rattle.std.proofs.lemmas.Nat.{or_lt, xor_lt}
use Rattle.rules.specs.Sizes.{task_count, group_count, ticks_round, flag_sets, test_count, waits_flags, all_clear, given}
use Rattle.rules.specs.Table.{Table, Asked, asking, task_of, group_of, group_queue, slot_in, asked_by, with_flags}
use Rattle.rules.specs.Decides.{equals, itself}
use Rattle.rules.specs.Move.{next}
use Rattle.rules.specs.Sound.{asks_in, Empty, Sound}
use Rattle.rules.specs.Group.{meeting, is_met, consumed, turned_over, posted, woken, flags_of, with_flags_of}
use Rattle.rules.specs.Group as group
use Rattle.rules.specs.declared.Task.{Task}
use Rattle.laws.specs.queues.Put.{pick, whichever, whichever₃}
use Rattle.laws.specs.queues.Fields.{ended_rest}
use Rattle.laws.specs.keeps.Records.{MayAsk}
use Rattle.laws.specs.keeps.Ending.{slot-waiter}
use Rattle.laws.specs.keeps.Moves.{BeforeChoice, ended_keeps, stored_keeps}
use Rattle.laws.specs.keeps.Objects.{used-may}
use Rattle.laws.specs.keeps.Families.{group_stores, group_unwaited, groups_lawful, waits_keeps}
use Rattle.laws.specs.keeps.Caller.{taken_keeps, midway, caller-task, runs-able}

-- "flag waits are no part of a chain": who waits for flags waits for no task.
pub no_chain : (t : Table) (i : ℕ) → (task_of t i).state ≡ waits_flags → next t i ≡ task_count
unfolding next
no_chain t i e = rw e

-- ---- sets of flags stay such

-- What is consumed is within the mask.
pub consumed-set : (flags : ℕ) (a : Asked) → flags < flag_sets → a.mask < flag_sets → consumed flags a < flag_sets
unfolding consumed meeting
consumed-set flags a f m =
    whichever (λ x. x < flag_sets) (eqb a.consume 1)
    (whichever (λ x. x < flag_sets) (ltb a.test all_clear) (and_lt 32 flags a.mask f m) (xor_lt 32 a.mask (bit_and flags a.mask) m (and_lt 32 flags a.mask f m)))
    (omega arith)

pub posted-set : (mask on flags : ℕ) → mask < flag_sets → flags < flag_sets → posted mask on flags < flag_sets
posted-set mask on flags m f = whichever (λ x. x < flag_sets) (eqb on 1) (or_lt 32 flags mask f m) (xor_lt 32 flags (bit_and flags mask) f (and_lt 32 flags mask f m))

-- A task asks for a set of flags, or for none.
asked-set : (k : Task) → k.mask < asks_in k.state flag_sets → k.mask < flag_sets
unfolding asks_in
asked-set k l = whichever (λ x. k.mask < x → k.mask < flag_sets) (eqb k.state waits_flags) (λ m. m) (λ m. omega arith) l

-- ---- the flags of a group in use change

module _ {t : Table} (h : BeforeChoice t) (g : ℕ) (u : (group_of t g).used ≡ 1) where
  pub flags-keep : (n : ℕ) → n < flag_sets → BeforeChoice (with_flags_of g n t)
  flags-keep n l =
      stored_keeps h (group_stores h.settled g (with_flags n (group_of t g)) (record { used = omega arith; flags = l; free = λ z. absurd (omega arith) }) (λ j k e o. u))

-- ---- the waiters whose test is met wake, and what they consume is turned over

pub woken_keeps : (n g flags k together : ℕ) {t : Table} → g < group_count → flags < flag_sets → together < flag_sets → BeforeChoice t → (group_of t g).used ≡ 1
    → BeforeChoice (woken n g flags k together t)
unfolding woken
woken_keeps zero g flags k together {t} l f c h u = flags-keep h g u _ (xor_lt 32 flags together f c)
woken_keeps (suc n) g flags k together {t} l f c h u =
    pick BeforeChoice equals
    (λ none. flags-keep h g u _ (xor_lt 32 flags together f c))
    (λ some.
    let i = slot_in (group_queue g) k t - 1 in
    let a = asked_by (task_of t i) in
    let w = slot-waiter h.settled (group_queue g) (omega arith) (λ e. omega arith) k some in
    let m = asked-set (task_of t i) (h.settled.tasks i w.task).in_range.mask in
    whichever₃ (λ k together t. BeforeChoice (woken n g flags k together t)) (is_met flags a)
    (woken_keeps n g flags k (bit_or together (consumed flags a)) l f (or_lt 32 together (consumed flags a) c (consumed-set flags a f m)) (ended_keeps h w given (omega arith))
    (ap (λ (x : Table). (group_of x g).used) (ended_rest given i t) ∙ u))
    (woken_keeps n g flags (k + 1) together l f c h u))

-- ---- the calls

module _ {t : Table} (s : Sound t) where
  pub create_keeps : (g flags : ℕ) → g < group_count → flags < flag_sets → Empty (group_queue g) t → BeforeChoice (group.create g flags t)
  unfolding group.create
  create_keeps g flags l f z = stored_keeps (midway s) (group_unwaited s.settled g _ l (record { used = omega arith; flags = f; free = λ e. absurd (omega arith) }) z)

  module _ (g : ℕ) (l : g < group_count) (u : (group_of t g).used ≡ 1) where
    has : flags_of t g < flag_sets
    has = (s.settled.objects.groups g l).flags

    pub wait_keeps : (limit mask test consume : ℕ) → limit < ticks_round → mask < flag_sets → mask ≢ 0 → test < test_count → consume ≤ 1 → t.running ≢ 0
        → (is_met (flags_of t g) (asking mask test consume) ≢ true → t.depth ≡ 0)
        → BeforeChoice (group.wait g limit (asking mask test consume) t)
    unfolding group.wait asks_in
    wait_keeps limit mask test consume most m some kind eats c free =
        pick BeforeChoice itself
        (λ met.
        taken_keeps {t = with_flags_of g (turned_over (consumed (flags_of t g) a) (flags_of t g)) t}
        (flags-keep (midway s) g u _ (xor_lt 32 (flags_of t g) (consumed (flags_of t g) a) has (consumed-set (flags_of t g) a has m)))
        (caller-task s)
        (runs-able s c))
        (λ unmet. waits_keeps groups_lawful (midway s) g l limit a most asks (caller-task s) (runs-able s c) (free unmet) (used-may t _ g (caller-task s) u))
      where
        a : Asked
        a = asking mask test consume

        asks : MayAsk waits_flags a
        asks = record { mask = m; test = kind; consume = omega arith; some = λ e. omega arith }

    pub post_keeps : (mask on : ℕ) → mask < flag_sets → BeforeChoice (group.post g mask on t)
    unfolding group.post
    post_keeps mask on m = woken_keeps task_count g (posted mask on (flags_of t g)) 0 0 l (posted-set mask on (flags_of t g) m has) (omega arith) (midway s) u
