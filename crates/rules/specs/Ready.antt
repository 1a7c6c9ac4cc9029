-- The word of ready levels: "a 64-bit word in which a level's bit is set exactly if that level has an able task, and the first level is found by
-- counting the word's leading zeros". That it is so is a rule of `Sound`.
use Rattle.std.specs.Prelude.{Bool, cond, not, ◌&&◌, ◌||◌, ℕ, zero, suc, ◌+◌, ◌-◌, ◌/◌, ◌%◌, ◌^◌, eqb}
use Rattle.std.specs.Int.Bits.{bit_and, bit_or, bit_xor}
use Rattle.std.specs.Int.Count.{count_leading_zeros}
use Rattle.queue.specs.Slots.{place_of}
use Rattle.queue.specs.Order.{level}
use Rattle.rules.specs.Sizes.{level_count}
use Rattle.rules.specs.Table.{Table, task_of, queue_of, able_queue, slot_in, works, is_able}

-- ---- a word

-- The bit of a level: level 0 has the top bit, each next one the bit below. (64 and more have none.)
unfoldable pub bit_of : ℕ → ℕ
bit_of l = 2 ^ 63 / 2 ^ l

-- Whether a level's bit is set.
unfoldable pub is_set : (l word : ℕ) → Bool
is_set l word = eqb (word / bit_of l % 2) 1

-- The word with a level's bit set; with it clear.
unfoldable pub with_level : (l word : ℕ) → ℕ
with_level l word = bit_or word (bit_of l)

unfoldable pub without_level : (l word : ℕ) → ℕ
without_level l word = bit_xor word (bit_and word (bit_of l))

-- "the first level is found by counting the word's leading zeros"; 64 means none
unfoldable pub first_level : ℕ → ℕ
first_level word = count_leading_zeros level_count word

-- The levels of the able ones among the first n tasks.
unfoldable pub levels_below : ℕ → Table → ℕ
levels_below zero t = 0
levels_below (suc n) t =
    let before = levels_below n t in
    cond (is_able (task_of t n)) (with_level (task_of t n).work before) before

-- ---- the word is kept

-- Whether slot k of the able queue holds a task of level l.
abbrev pub is_at : (l k : ℕ) → Table → Bool
is_at l k t = level (works t) l (slot_in able_queue k t)

-- Whether a neighbour of task i in the able queue has its level. (Equals stand together there.)
unfoldable pub beside : ℕ → Table → Bool
beside i t =
    let at = place_of i (queue_of t able_queue) in
    let l = (task_of t i).work in
    is_at l (at + 1) t || (not (eqb at 0) && is_at l (at - 1) t)

-- Task i leaves the able queue: its level's bit is cleared, unless a neighbour has its level.
unfoldable pub ready_without : ℕ → Table → ℕ
ready_without i t = cond (beside i t) t.ready (without_level (task_of t i).work t.ready)

-- It joins it: its level's bit is set.
unfoldable pub ready_with : ℕ → Table → ℕ
ready_with i t = with_level (task_of t i).work t.ready
