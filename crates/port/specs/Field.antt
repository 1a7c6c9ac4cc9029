-- The fields that C code reads: their codes, as the header's `enum ntk_field` has them, and what each shows of a table.
use Rattle.std.specs.Prelude.{Bool, false, cond, List, [], ◌∷◌, ◌++◌, ℕ, ◌*◌, ◌/◌, ◌%◌, eqb, ltb, length, get_or}
use Rattle.rules.specs.Sizes.{task_count, semaphore_count, mutex_count, group_count, channel_count, most_messages}
use Rattle.rules.specs.Table.{Table, task_of, semaphore_of, mutex_of, group_of, channel_of, row_of, queue_of, queue_count}
use Rattle.rules.specs.declared.Task.{Task}
use Rattle.rules.specs.declared.Semaphore.{Semaphore}
use Rattle.rules.specs.declared.Mutex.{Mutex}
use Rattle.rules.specs.declared.Group.{Group}
use Rattle.rules.specs.declared.Channel.{Channel}
use Rattle.table.specs.Image.{image_size, view}

-- What no field shows: a field has 32 bits. It is the greatest number of 64 bits.
abbrev pub no_field : ℕ
no_field = 18446744073709551615

-- A field: its code; how many there are of it, numbered from 0; and what the one with the number i shows.
pub record Field : Type 0 where
  pub code : ℕ
  pub count : ℕ
  pub shows : Table → ℕ → ℕ

-- ---- the list of fields

abbrev pub of_task : ℕ → (Task → ℕ) → Field
of_task code part = record { code = code; count = task_count; shows = λ t i. part (task_of t i) }

abbrev pub of_semaphore : ℕ → (Semaphore → ℕ) → Field
of_semaphore code part = record { code = code; count = semaphore_count; shows = λ t i. part (semaphore_of t i) }

abbrev pub of_mutex : ℕ → (Mutex → ℕ) → Field
of_mutex code part = record { code = code; count = mutex_count; shows = λ t i. part (mutex_of t i) }

abbrev pub of_group : ℕ → (Group → ℕ) → Field
of_group code part = record { code = code; count = group_count; shows = λ t i. part (group_of t i) }

abbrev pub of_channel : ℕ → (Channel → ℕ) → Field
of_channel code part = record { code = code; count = channel_count; shows = λ t i. part (channel_of t i) }

-- Slot j of queue q has the number 32 q + j.
abbrev pub slots : ℕ → Field
slots code = record { code = code; count = queue_count * task_count; shows = λ t i. get_or (queue_of t (i / task_count)) (i % task_count) 0 }

-- Slot j of the row of channel c has the number 32 c + j.
abbrev pub messages : ℕ → Field
messages code = record { code = code; count = channel_count * most_messages; shows = λ t i. get_or (row_of t (i / most_messages)) (i % most_messages) 0 }

-- There is one, with the number 0.
abbrev pub single : ℕ → (Table → ℕ) → Field
single code part = record { code = code; count = 1; shows = λ t i. part t }

abbrev pub task_fields : List Field
task_fields =
    of_task 0x00 (λ k. k.used)
    ∷ of_task 0x01 (λ k. k.base)
    ∷ of_task 0x02 (λ k. k.work)
    ∷ of_task 0x03 (λ k. k.suspend)
    ∷ of_task 0x04 (λ k. k.quantum)
    ∷ of_task 0x05 (λ k. k.left)
    ∷ of_task 0x06 (λ k. k.state)
    ∷ of_task 0x07 (λ k. k.object)
    ∷ of_task 0x08 (λ k. k.marked)
    ∷ of_task 0x09 (λ k. k.due)
    ∷ of_task 0x0A (λ k. k.outcome)
    ∷ of_task 0x0B (λ k. k.mask)
    ∷ of_task 0x0C (λ k. k.test)
    ∷ of_task 0x0D (λ k. k.consume)
    ∷ of_task 0x0E (λ k. k.message)
    ∷ []

abbrev pub object_fields : List Field
object_fields =
    of_semaphore 0x10 (λ x. x.used)
    ∷ of_semaphore 0x11 (λ x. x.count)
    ∷ of_mutex 0x20 (λ x. x.used)
    ∷ of_mutex 0x21 (λ x. x.holder)
    ∷ of_mutex 0x22 (λ x. x.nesting)
    ∷ []

abbrev pub group_fields : List Field
group_fields = of_group 0x30 (λ x. x.used) ∷ of_group 0x31 (λ x. x.flags) ∷ []

abbrev pub channel_fields : List Field
channel_fields = of_channel 0x40 (λ x. x.used) ∷ of_channel 0x41 (λ x. x.capacity) ∷ of_channel 0x42 (λ x. x.held) ∷ []

abbrev pub queue_fields : List Field
queue_fields = slots 0xE0 ∷ []

abbrev pub message_fields : List Field
message_fields = messages 0xE1 ∷ []

abbrev pub ready_field : ℕ
ready_field = 0xF4

abbrev pub single_fields : List Field
single_fields = single 0xF0 (λ t. t.tick) ∷ single 0xF1 (λ t. t.depth) ∷ single 0xF2 (λ t. t.running) ∷ single 0xF3 (λ t. t.default_quantum) ∷ single ready_field (λ t. t.ready) ∷ []

abbrev pub fields : List Field
fields = task_fields ++ (object_fields ++ (group_fields ++ (channel_fields ++ (queue_fields ++ (message_fields ++ single_fields)))))

-- ---- what is read

-- What the field with the code f of a list shows; `no_field` where the list lacks it or there is no number i.
unfoldable pub shown_in : List Field → (f i : ℕ) → Table → ℕ
shown_in [] f i t = no_field
shown_in (r ∷ rs) f i t = cond (eqb f r.code) (cond (ltb i r.count) (r.shows t i) no_field) (shown_in rs f i t)

abbrev pub field_of : (f i : ℕ) → Table → ℕ
field_of f i t = shown_in fields f i t

-- The same of the table that bytes show; `no_field` where their length is not an image's.
unfoldable pub read_of : (f i : ℕ) → List ℕ → ℕ
read_of f i l = cond (eqb (length l) image_size) (field_of f i (view l)) no_field

-- Whether a list has the field f and there is a number i of it.
unfoldable pub known_in : List Field → (f i : ℕ) → Bool
known_in [] f i = false
known_in (r ∷ rs) f i = cond (eqb f r.code) (ltb i r.count) (known_in rs f i)

abbrev pub known : (f i : ℕ) → Bool
known f i = known_in fields f i
