-- The numbers that C code gets for the answers of the queue; the header names them.
use Rattle.std.specs.Prelude.{ℕ, Option, Some, None, Ok, Err}
use Rattle.queue.specs.Answers.{Answer}
use Rattle.queue.specs.declared.Refusal.TheVariants.{BeyondKeys, AlreadyThere, NotThere, Full}

-- An id is a byte, so 256 is none.
abbrev pub first_number : Option ℕ → ℕ
first_number (Some id) = id
first_number None = 256

-- The greatest number of 64 bits, which is the place of no slot.
abbrev pub place_number : Option ℕ → ℕ
place_number (Some at) = at
place_number None = 18446744073709551615

abbrev pub answer_number : Answer → ℕ
answer_number (Ok _) = 0
answer_number (Err BeyondKeys) = 1
answer_number (Err AlreadyThere) = 2
answer_number (Err NotThere) = 3
answer_number (Err Full) = 4
