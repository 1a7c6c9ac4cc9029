-- The kinds of objects that tasks wait for. Each is a family: what the calls that every kind has must know of it; `Object` says these
-- calls once, over a family. In which queue a waiter stands and which numbers a state may name is read off the list of families, so
-- that a kind of object is a row of it.
use Rattle.std.specs.Prelude.{Bool, false, cond, List, [], ◌∷◌, ℕ, ◌+◌, eqb, ltb, length}
use Rattle.rules.specs.Sizes.{task_count, semaphore_count, mutex_count, group_count, channel_count, delayed, waits_semaphore, waits_mutex, waits_flags, waits_message}
use Rattle.rules.specs.declared.Task.{Task}
use Rattle.rules.specs.Table.{Table, semaphore_of, mutex_of, group_of, channel_of, holder_of, queue_count, able_queue, semaphore_queue, mutex_queue, group_queue, channel_queue, is_able, no_semaphore, no_mutex, no_group, no_channel, with_semaphore, with_mutex, with_group, with_channel}
use Rattle.rules.specs.Messages.{holding}

pub record Family : Type 0 where
  -- the state of a task that waits for one of them, how many there are, and the queue of number 0, before those of the others
  pub state : ℕ
  pub count : ℕ
  pub first : ℕ
  -- whether number o is in use, and the table where it is free
  pub used : Table → ℕ → ℕ
  pub gone : ℕ → Table → Table
  -- whether it has something to take
  pub offers : Table → ℕ → Bool
  -- the task that holds it, where the chain begins that moves; `task_count`, which is no task, for none
  pub holder : Table → ℕ → ℕ

-- The queue of number o.
abbrev pub waiters_of : Family → ℕ → ℕ
waiters_of f o = f.first + o

-- "A semaphore with count above 0 is taken"; it has no holder.
abbrev pub semaphores : Family
semaphores =
    record {
      state = waits_semaphore;
      count = semaphore_count;
      first = semaphore_queue 0;
      used = λ t s. (semaphore_of t s).used;
      gone = λ s t. with_semaphore s no_semaphore t;
      offers = λ t s. ltb 0 (semaphore_of t s).count;
      holder = λ t s. task_count;
    }

-- "a free mutex is taken"
abbrev pub mutexes : Family
mutexes =
    record {
      state = waits_mutex;
      count = mutex_count;
      first = mutex_queue 0;
      used = λ t m. (mutex_of t m).used;
      gone = λ m t. with_mutex m no_mutex t;
      offers = λ t m. eqb (mutex_of t m).holder 0;
      holder = holder_of;
    }

-- A group of flags. What there is to take goes by what a wait asks, and "Flags turned over by consuming wake nobody", so a waiter whose test is
-- met may stand there until the next post: no rule ties waiters to flags. It has no holder: "flag waits are no part of a chain".
abbrev pub groups : Family
groups =
    record {
      state = waits_flags;
      count = group_count;
      first = group_queue 0;
      used = λ t g. (group_of t g).used;
      gone = λ g t. with_group g no_group t;
      offers = λ t g. false;
      holder = λ t g. task_count;
    }

-- A message queue with a message has one to take; it has no holder. Where it goes its messages go.
abbrev pub channels : Family
channels =
    record {
      state = waits_message;
      count = channel_count;
      first = channel_queue 0;
      used = λ t c. (channel_of t c).used;
      gone = λ c t. with_channel c no_channel (holding c [] t);
      offers = λ t c. ltb 0 (channel_of t c).held;
      holder = λ t c. task_count;
    }

-- All of them, in the order of their states and of their queues.
abbrev pub families : List Family
families = semaphores ∷ mutexes ∷ groups ∷ channels ∷ []

-- The states are those of no wait and one for each family.
abbrev pub last_state : ℕ
last_state = delayed + length families

-- f is one of the list.
pub data Among : Family → List Family → Type 0 where
  this : {f : Family} {fs : List Family} → Among f (f ∷ fs)
  other : {f g : Family} {fs : List Family} → Among f fs → Among f (g ∷ fs)

-- What the family of a state says; `none` where the state is no family's.
unfoldable pub of_state : List Family → (state : ℕ) → (Family → ℕ) → (none : ℕ) → ℕ
of_state [] state part none = none
of_state (f ∷ fs) state part none = let further = of_state fs state part none in cond (eqb state f.state) (part f) further

-- How many numbers the object of a task may have: those of the kind it waits for, and none but 0 where it waits for nothing.
abbrev pub objects_in : ℕ → ℕ
objects_in state = of_state families state (λ f. f.count) 1

-- The queue where a task stands: the able queue, or that of the object it waits for; `queue_count` where it stands in none.
unfoldable pub place_of : Task → ℕ
place_of k = cond (is_able k) able_queue (of_state families k.state (λ f. waiters_of f k.object) queue_count)
