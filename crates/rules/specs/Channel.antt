-- Message queues, called channels here: what is their own. `Object` has their delete and their abort.
use Rattle.std.specs.Prelude.{Bool, cond, ◌||◌, List, [], ◌∷◌, ◌++◌, ℕ, ◌-◌, eqb, ltb, leb, length, get_or, drop}
use Rattle.rules.specs.Sizes.{most_messages, given, done, bad_value, channel_full}
use Rattle.rules.specs.Table.{Table, nothing_asked, task_of, channel_of, channel_queue, first_in, room_for, with_message, with_channel}
use Rattle.rules.specs.Messages.{present, holding}
use Rattle.rules.specs.Move.{put, ended}
use Rattle.rules.specs.Time.{caller_of}
use Rattle.rules.specs.Family.{channels}
use Rattle.rules.specs.Object.{on_one, object_create_answer, yes_no, has_waiter, block_answer, wait_answer_on, waits, taken}

-- ---- "16 queues of up to 32 messages, each a 32-bit number, the capacity 1 to 32 fixed at creation"

-- "capacity 0 or above 32 gets 4"
abbrev pub right_capacity : ℕ → ℕ → ℕ
right_capacity capacity answer = cond (eqb capacity 0 || ltb most_messages capacity) bad_value answer

unfoldable pub create_answer : (c capacity : ℕ) → Table → ℕ
create_answer c capacity t =
    let n = object_create_answer channels c t in
    cond (eqb n done) (right_capacity capacity done) n

unfoldable pub create : (c capacity : ℕ) → Table → Table
create c capacity t = with_channel c (room_for capacity) t

-- The message v stands in the record of task i.
unfoldable pub delivered : (i v : ℕ) → Table → Table
delivered i v t = put i (with_message v (task_of t i)) t

-- ---- "Wait, limit .. are as for semaphores": a message "taken at once stands in the caller's" record

unfoldable pub wait_answer : (c block : ℕ) → Table → ℕ
wait_answer c block t = wait_answer_on channels c block (cond (channels.offers t c) done (block_answer block t)) t

unfoldable pub wait : (c limit : ℕ) → Table → Table
wait c limit t =
    let is_there = channels.offers t c in
    let takes = taken (delivered (caller_of t) (get_or (present t c) 0 0) (holding c (drop 1 (present t c)) t)) in
    let blocks = waits channels c limit nothing_asked t in
    cond is_there takes blocks

-- ---- "A post goes to the end or to the front; with a waiter, the message goes to the first waiter directly and stands in its record"

abbrev pub is_full : Table → ℕ → Bool
is_full t c = leb (channel_of t c).capacity (channel_of t c).held

-- "16, after 4, for a post to a full queue"; front is a yes/no byte
unfoldable pub post_answer : (c front : ℕ) → Table → ℕ
post_answer c front t = on_one channels c t (yes_no front (cond (is_full t c) channel_full done))

-- The messages l with v at the front, or at the end.
abbrev pub with_posted : (front v : ℕ) → List ℕ → List ℕ
with_posted front v l = cond (eqb front 1) (v ∷ l) (l ++ (v ∷ []))

unfoldable pub post : (c v front : ℕ) → Table → Table
post c v front t =
    let is_awaited = has_waiter (channel_queue c) t in
    let waiter = first_in (channel_queue c) t - 1 in
    let gives = delivered waiter v (ended given waiter t) in
    let keeps = holding c (with_posted front v (present t c)) t in
    cond is_awaited gives keeps

-- ---- "Flush empties the queue and tells how many messages went in a further result"

unfoldable pub flush_answer : ℕ → Table → ℕ
flush_answer c t = on_one channels c t done

unfoldable pub flush : ℕ → Table → Table
flush c t = holding c [] t

abbrev pub flushed : ℕ → Table → ℕ
flushed c t = length (present t c)
