-- Groups of flags: what is their own. `Object` has their delete and their abort.
use Rattle.std.specs.Prelude.{Bool, cond, not, ◌||◌, ℕ, zero, suc, ◌+◌, ◌-◌, eqb, ltb, leb}
use Rattle.std.specs.Int.Bits.{bit_and, bit_or, bit_xor}
use Rattle.rules.specs.Sizes.{task_count, all_set, all_clear, test_count, given, done, bad_value}
use Rattle.rules.specs.Table.{Table, Asked, task_of, group_of, group_queue, slot_in, asked_by, flagged, with_flags, with_group}
use Rattle.rules.specs.Move.{ended}
use Rattle.rules.specs.Family.{groups}
use Rattle.rules.specs.Object.{on_one, yes_no, block_answer, wait_answer_on, waits, taken}

-- ---- "8 groups of 32 flags, given at creation"

unfoldable pub create : ℕ → ℕ → Table → Table
create g n t = with_group g (flagged n) t

-- Group g with the flags n.
abbrev pub with_flags_of : ℕ → ℕ → Table → Table
with_flags_of g n t = with_group g (with_flags n (group_of t g)) t

abbrev pub flags_of : Table → ℕ → ℕ
flags_of t g = (group_of t g).flags

-- ---- "one of four tests: all set, any set, all clear, any clear"

-- The flags of the mask that are as the test wants them: set, or clear.
unfoldable pub meeting : (flags : ℕ) → Asked → ℕ
meeting flags a =
    let are_set = bit_and flags a.mask in
    let are_clear = bit_xor a.mask are_set in
    cond (ltb a.test all_clear) are_set are_clear

-- All of the mask, or any.
unfoldable pub is_met : (flags : ℕ) → Asked → Bool
is_met flags a =
    let wants_all = eqb a.test all_set || eqb a.test all_clear in
    let all = eqb (meeting flags a) a.mask in
    let any = not (eqb (meeting flags a) 0) in
    cond wants_all all any

-- "it may consume the flags that met the test"
unfoldable pub consumed : (flags : ℕ) → Asked → ℕ
consumed flags a = cond (eqb a.consume 1) (meeting flags a) 0

-- "turned over": what was set is clear, and what was clear is set.
abbrev pub turned_over : (consumed flags : ℕ) → ℕ
turned_over consumed flags = bit_xor flags consumed

-- ---- a wait: met at once it is given, else "Time limits .. work as for semaphores"

-- "a mask of 0 or a fifth test gets 4", and a yes/no byte above 1
abbrev pub rightly_asked : Asked → ℕ → ℕ
rightly_asked a answer = cond (eqb a.mask 0 || leb test_count a.test) bad_value (yes_no a.consume answer)

unfoldable pub wait_answer : (g block : ℕ) → Asked → Table → ℕ
wait_answer g block a t = wait_answer_on groups g block (rightly_asked a (cond (is_met (flags_of t g) a) done (block_answer block t))) t

unfoldable pub wait : (g limit : ℕ) → Asked → Table → Table
wait g limit a t =
    let flags = flags_of t g in
    let takes = taken (with_flags_of g (turned_over (consumed flags a) flags) t) in
    let blocks = waits groups g limit a t in
    cond (is_met flags a) takes blocks

-- ---- "Post sets or clears the flags of a mask."

unfoldable pub post_answer : (g mask on : ℕ) → Table → ℕ
post_answer g mask on t = on_one groups g t (cond (eqb mask 0) bad_value (yes_no on done))

abbrev pub posted : (mask on flags : ℕ) → ℕ
posted mask on flags = cond (eqb on 1) (bit_or flags mask) (bit_xor flags (bit_and flags mask))

-- "Waiters are tested from the first of the queue against the flags as the post left them; the consumed flags of all who were woken are then
-- turned over together." The waiter in slot k: who is met leaves the queue, and the next stands in its slot; after who is not, the next slot
-- follows. `together` is what those before have consumed; n slots at most.
unfoldable pub woken : (n g flags k together : ℕ) → Table → Table
woken zero g flags k together t = with_flags_of g (turned_over together flags) t
woken (suc n) g flags k together t =
    let waiter = slot_in (group_queue g) k t in
    let asked = asked_by (task_of t (waiter - 1)) in
    let wakes = is_met flags asked in
    let over = with_flags_of g (turned_over together flags) t in
    let others = woken n g flags (cond wakes k (k + 1)) (cond wakes (bit_or together (consumed flags asked)) together) (cond wakes (ended given (waiter - 1) t) t) in
    cond (eqb waiter 0) over others

unfoldable pub post : (g mask on : ℕ) → Table → Table
post g mask on t = woken task_count g (posted mask on (flags_of t g)) 0 0 t
