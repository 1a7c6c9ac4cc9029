-- What demand 3 speaks of, as definitions: calls made one after another, and two tasks that keep their order in a queue (`OrderKept`).
-- To read them: a task's number a stands written as a + 1 in the slots of a queue, and `place_of` is the queue where a task stands. In a
-- sound table each task stands once in the queue of its place and in no other (the rules' `SoundQueues`). `A → ⊥` says "not A".
use Rattle.std.specs.Prelude.{◌≡◌, ◌≢◌, Bool, true, false, List, [], ◌∷◌, ℕ, ◌≤◌, ◌<◌, length}
use Rattle.queue.specs.Slots.{first_at, same}
use Rattle.rules.specs.Sizes.{task_count}
use Rattle.rules.specs.Table.{Table, task_of, queue_of, queue_count, is_able, written}
use Rattle.rules.specs.Family.{place_of}
use Rattle.rules.specs.Step.{Bounded, step}
use Rattle.rules.specs.declared.Task.{Task}
use Rattle.rules.specs.declared.Call.{Call}
use Rattle.rules.specs.declared.Call.TheVariants.{Yield, Tick}

-- ---- calls

-- A call that is made, by a task or by an interrupt (`interrupt`, true or false). Its own numbers have 32 bits (`Bounded`).
pub record Made : Type 0 where
  pub call : Call
  pub interrupt : Bool
  pub bounded : Bounded call

-- The table after calls made one after another; a refused one leaves it as it is.
unfoldable pub run : List Made → Table → Table
run [] t = t
run (c ∷ cs) t = run cs (step c.call c.interrupt t).table

-- ---- order

-- The first slot of l that holds task a, counted from 0; as many as there are slots, where none does.
abbrev pub slot_of : ℕ → List ℕ → ℕ
slot_of a l = first_at (same (written a)) l

-- Task a stands before task b in the slots l, and both stand there.
pub record Before (a b : ℕ) (l : List ℕ) : Type 0 where
  pub first : slot_of a l < slot_of b l
  pub both : slot_of b l < length l

-- Task a stands in queue q in the table t and in the table u, and works at the same priority in both.
pub record Stayed (q a : ℕ) (t u : Table) : Type 0 where
  pub was : place_of (task_of t a) ≡ q
  pub is : place_of (task_of u a) ≡ q
  pub work : (task_of u a).work ≡ (task_of t a).work

-- "another able task has its working priority"
pub record Peer (a : ℕ) (t : Table) : Type 0 where
  pub number : ℕ
  pub range : number < task_count
  pub other : number ≢ a
  pub able : is_able (task_of t number) ≡ true
  pub work : (task_of t number).work ≡ (task_of t a).work

-- The call, made by an interrupt (true) or by a task (false), ends the turn of the running task k: a task's yield does; a tick does
-- where no more than 1 of its quantum is left. (An interrupt's yield is refused.)
pub data TurnEnds (k : Task) : Call → Bool → Type 0 where
  yields : TurnEnds k Yield false
  used_up : {interrupt : Bool} → k.left ≤ 1 → TurnEnds k Tick interrupt

-- Task a runs in the table t, and the call c makes it go behind a peer.
pub record Rotated (c : Call) (interrupt : Bool) (t : Table) (a : ℕ) : Type 0 where
  pub runs : t.running ≡ written a
  pub ends : TurnEnds (task_of t a) c interrupt
  pub unlocked : t.depth ≡ 0
  pub peer : Peer a t

-- The call c, which makes u of t, keeps the order: of any two tasks that stayed in a queue, and neither of which it rotated, that which
-- stood before the other still does.
abbrev pub OrderKept : Call → Bool → Table → Table → Type 0
OrderKept c interrupt t u =
    (q a b : ℕ) → q < queue_count → a < task_count → b < task_count → a ≢ b
    → Stayed q a t u → Stayed q b t u
    → (Rotated c interrupt t a → ⊥) → (Rotated c interrupt t b → ⊥)
    → Before a b (queue_of t q) → Before a b (queue_of u q)
