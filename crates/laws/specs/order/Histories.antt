-- The order of messages over histories: what comes out of a message queue, called a channel here, is what went in, first in first out for
-- posts to the end, and a message posted to the front is the next one. Statements alone; `HistoryProof` proves each.
--
-- For a reader who knows no antt. A history is a list of calls and ticks `ms`, made one after another from a table t, by tasks and by
-- interrupts; refused ones may be among them. `came_in` is what a call brings into channel c, `came_out` what comes out by it and where it is
-- found then, and `line` is all messages of the history in the order that the paper gives. `Orderly c ms t` says that what came out by all
-- calls, and behind it what is in the channel at the end, is this line; `MessagesInOrder`, that this holds of each sound table t, each
-- channel c, in use or not, and each history. Nothing is asked of the history: deletes of the channel may be in it, and a create of it
-- again. That antt accepts `HistoryProof` is the proof; nothing is assumed. It also has what `brings` and `gets` say of each call by its
-- name (`post-brings`, `wait-gets` and so on).
--
-- The symbols: `x ≡ y` is "x equals y" and `x ≢ y` that it does not; `A → B` is "if A, then B", `A → ⊥` is "not A", `A × B` is "A and B",
-- and `(x : ℕ) → ..` is "for each number x, .."; `[]` is the empty list, `x ∷ l` the list l with x before it, and `l ++ m` the list l and
-- behind it m; `take n l` is the first n of l, `drop n l` the others, and `get_or l n 0` number n of l, counted from 0; `cond b x y` is x where
-- the test b passes, and y where it fails; `eqb m n` tests whether m equals n, and `b && d` passes where both do. What a name means is said
-- where it is defined: in `Order` (Made, run) and in the rules' `Messages` (present: the messages in a channel, the next one first), `Time`
-- (caller_of), `Object` (has_waiter), `Table` (fresh_table, channel_of, channel_queue, first_in), `Kinds` (kind_of, numbers_of) and `Step` (step, and
-- its Outcome: answer, table afterwards, further result). A task's number is written plus 1 where "none" may stand, and none is 0.
use Rattle.std.specs.Prelude.{◌≡◌, ◌≢◌, Bool, true, cond, ◌&&◌, List, [], ◌∷◌, ◌++◌, ℕ, ◌+◌, ◌-◌, eqb, length, get_or, take, drop}
use Rattle.rules.specs.Sizes.{done}
use Rattle.rules.specs.Table.{Table, fresh_table, task_of, channel_of, channel_queue, first_in, written}
use Rattle.rules.specs.Time.{caller_of}
use Rattle.rules.specs.Object.{has_waiter}
use Rattle.rules.specs.Messages.{present}
use Rattle.rules.specs.Kinds.{kind_of, numbers_of}
use Rattle.rules.specs.Sound.{Sound}
use Rattle.rules.specs.Step.{Outcome, step}
use Rattle.rules.specs.declared.Call.{Call}
use Rattle.rules.specs.declared.Call.TheVariants.{TaskDelete}
use Rattle.laws.specs.order.Order.{Made, run}

-- ---- calls

-- The call is of that kind and on channel c. Kinds and numbers are those of the tape: 41 delete (number, force); 42 wait (number, block,
-- limit); 43 post (number, message, 1 front or 0 end); 45 flush (number).
abbrev pub is_on : (kind c : ℕ) → Call → Bool
is_on kind c call = eqb (kind_of call) kind && eqb (get_or (numbers_of call) 0 0) c

abbrev pub is_delete : ℕ → Call → Bool
is_delete c call = is_on 0x41 c call

abbrev pub is_wait : ℕ → Call → Bool
is_wait c call = is_on 0x42 c call

abbrev pub is_post : ℕ → Call → Bool
is_post c call = is_on 0x43 c call

abbrev pub is_flush : ℕ → Call → Bool
is_flush c call = is_on 0x45 c call

-- Of a post: its message, and whether it is to the front.
abbrev pub message_of : Call → ℕ
message_of call = get_or (numbers_of call) 1 0

abbrev pub is_to_front : Call → Bool
is_to_front call = eqb (get_or (numbers_of call) 2 0) 1

-- ---- what goes in

-- Nothing, a message for the end, or one for the front.
pub data Brought : Type 0 where
  nothing : Brought
  at_end : ℕ → Brought
  in_front : ℕ → Brought

-- What a call that is done brings into channel c: the message of a post.
abbrev pub brings : ℕ → Call → Brought
brings c call = cond (is_post c call) (cond (is_to_front call) (in_front (message_of call)) (at_end (message_of call))) nothing

-- ---- what comes out

-- The message in the record of task i.
abbrev pub in_record : ℕ → Table → ℕ
in_record i t = (task_of t i).message

-- What a call that is done gets out of channel c, where its outcome on the table t is o:
-- a wait, the message that stands in the caller's record afterwards;
-- a post that finds a waiter, the message that stands in the first waiter's record afterwards;
-- a flush, as many of the messages that were there, from the first, as its further result tells;
-- a delete, all that were there: they go with the channel;
-- every other call, none.
abbrev pub gets : ℕ → Call → Table → Outcome → List ℕ
gets c call t o =
    cond (is_wait c call) (in_record (caller_of t) o.table ∷ [])
    (cond (is_post c call && has_waiter (channel_queue c) t) (in_record (first_in (channel_queue c) t - 1) o.table ∷ [])
    (cond (is_flush c call) (take o.further (present t c))
    (cond (is_delete c call) (present t c) [])))

-- ---- a call of a history

-- Its outcome on the table t, and the table afterwards.
abbrev pub outcome_of : Made → Table → Outcome
outcome_of m t = step m.call m.interrupt t

abbrev pub after : Made → Table → Table
after m t = (outcome_of m t).table

-- 0: "done". A call that is refused, and a wait that blocks, is answered another number.
abbrev pub is_done : Outcome → Bool
is_done o = eqb o.answer done

-- What it brought into channel c, and what came out by it.
abbrev pub came_in : ℕ → Made → Table → Brought
came_in c m t = cond (is_done (outcome_of m t)) (brings c m.call) nothing

abbrev pub came_out : ℕ → Made → Table → List ℕ
came_out c m t = cond (is_done (outcome_of m t)) (gets c m.call t (outcome_of m t)) []

-- ---- histories

-- All that came out of channel c, in the order of the calls.
unfoldable pub out : ℕ → List Made → Table → List ℕ
out c [] t = []
out c (m ∷ ms) t = came_out c m t ++ out c ms (after m t)

-- All that was posted to it, in the order of the calls, wherever it went.
abbrev pub messages_of : Brought → List ℕ
messages_of nothing = []
messages_of (at_end v) = v ∷ []
messages_of (in_front v) = v ∷ []

unfoldable pub posted : ℕ → List Made → Table → List ℕ
posted c [] t = []
posted c (m ∷ ms) t = messages_of (came_in c m t) ++ posted c ms (after m t)

-- "A post goes to the end or to the front": the messages l, of which the first n have come out, with what is brought at its place. One for
-- the end goes to the end; one for the front goes right behind those that have come out, so that it is next.
abbrev pub placed : Brought → (n : ℕ) → List ℕ → List ℕ
placed nothing n l = l
placed (at_end v) n l = l ++ (v ∷ [])
placed (in_front v) n l = take n l ++ (v ∷ drop n l)

-- All messages in the order that the paper gives, where the line is l so far and the first n of it have come out.
unfoldable pub line_from : ℕ → List Made → Table → (n : ℕ) → List ℕ → List ℕ
line_from c [] t n l = l
line_from c (m ∷ ms) t n l = line_from c ms (after m t) (n + length (came_out c m t)) (placed (came_in c m t) n l)

-- It begins with the messages that are there, of which none has come out.
abbrev pub line : ℕ → List Made → Table → List ℕ
line c ms t = line_from c ms t 0 (present t c)

-- No message was brought to the front.
unfoldable pub AllAtEnd : ℕ → List Made → Table → Type 0
AllAtEnd c [] t = Unit {0}
AllAtEnd c (m ∷ ms) t = ((v : ℕ) → came_in c m t ≢ in_front v) × AllAtEnd c ms (after m t)

-- ---- the statements

-- The messages of channel c in a history from the table t.
pub record Orderly (c : ℕ) (ms : List Made) (t : Table) : Type 0 where
  -- What came out, and behind it what is there at the end, is the line.
  pub in_line : out c ms t ++ present (run ms t) c ≡ line c ms t
  -- First in first out: where all posts were to the end, it is what was there, and behind it what was posted.
  pub in_turn : AllAtEnd c ms t → out c ms t ++ present (run ms t) c ≡ present t c ++ posted c ms t

-- From any sound table, over any calls and ticks, refused ones included.
abbrev pub MessagesInOrder : Type 0
MessagesInOrder = (t : Table) → Sound t → (c : ℕ) (ms : List Made) → Orderly c ms t

-- A channel that is not in use has no message.
abbrev pub UnusedEmpty : Type 0
UnusedEmpty = (t : Table) → Sound t → (c : ℕ) → (channel_of t c).used ≢ 1 → present t c ≡ []

-- So from the fresh table, with posts to the end alone: what came out, and behind it what is there, is the very sequence that was posted.
abbrev pub FirstInFirstOut : Type 0
FirstInFirstOut = (c : ℕ) (ms : List Made) → AllAtEnd c ms fresh_table → out c ms fresh_table ++ present (run ms fresh_table) c ≡ posted c ms fresh_table

-- "Flush empties the queue and tells how many messages went in a further result, 0 otherwise".
pub record Tells (m : Made) (t : Table) : Type 0 where
  pub empties : (c : ℕ) → is_flush c m.call ≡ true → is_done (outcome_of m t) ≡ true → (present (after m t) c ≡ []) × ((outcome_of m t).further ≡ length (present t c))
  pub otherwise : ((c : ℕ) → is_flush c m.call && is_done (outcome_of m t) ≢ true) → (outcome_of m t).further ≡ 0

abbrev pub FlushTells : Type 0
FlushTells = (t : Table) → Sound t → (m : Made) → Tells m t

-- What makes another message of the one in the record of task j: it takes one, it is the first waiter of a channel to which one is posted,
-- or it is deleted.
pub data Renews (j : ℕ) (m : Made) (t : Table) : Type 0 where
  taken : (c : ℕ) → is_done (outcome_of m t) ≡ true → is_wait c m.call ≡ true → caller_of t ≡ j → Renews j m t
  given : (c : ℕ) → is_done (outcome_of m t) ≡ true → is_post c m.call ≡ true → first_in (channel_queue c) t ≡ written j → Renews j m t
  gone : is_done (outcome_of m t) ≡ true → m.call ≡ TaskDelete j → Renews j m t

-- The message that came out stands in the record until then, through every other call.
abbrev pub RecordsStay : Type 0
RecordsStay = (t : Table) → Sound t → (m : Made) (j : ℕ) → (Renews j m t → ⊥) → in_record j (after m t) ≡ in_record j t
