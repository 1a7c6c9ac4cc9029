-- What `ntk_why` says of any bytes. Statements alone; `WhyProof` proves each.
--
-- For a reader who knows no antt. C code hands bytes to `ntk_why`, which gives two numbers, `reason_of` of the bytes: a rule's and a record's. `WhyFifteen` says
-- that the rule is 0 exactly where `ntk_step` does not answer 15, `WhyLength` that they are 0xFF and 0 exactly where the length is wrong, and `WhyBroken` that else
-- it is right: `Explains` of the crate `why` says how, and its `Broken` lists the rules. That antt accepts `WhyProof` is the proof; nothing is assumed.
-- `ByteTheorem` says what the symbols mean.
use Rattle.std.specs.Prelude.{◌≡◌, ◌↔◌, ◌≢◌, List, ℕ, length}
use Rattle.rules.specs.Sizes.{not_sound}
use Rattle.rules.specs.Tape.{Bytes}
use Rattle.table.specs.Image.{image_size, view}
use Rattle.why.specs.Tests.{reason}
use Rattle.why.specs.Theorem.{Explains}
use Rattle.port.specs.Step.{Stepped}
use Rattle.port.specs.Why.{wrong_length, reason_of}

-- A call on the same bytes, of any kind and any numbers, is answered 15 exactly where there is a reason.
abbrev pub WhyFifteen : Type 0
WhyFifteen = (kind a b c d e f : ℕ) (l : List ℕ) → Bytes l → (x v k : ℕ) (m : List ℕ) → Stepped kind a b c d e f l x v k m → ((reason_of l).rule ≡ 0) ↔ (x ≢ not_sound)

abbrev pub WhyLength : Type 0
WhyLength = (l : List ℕ) → (reason_of l ≡ reason wrong_length 0) ↔ (length l ≢ image_size)

-- Of the right length: the reason is that of the table that the bytes show.
abbrev pub WhyBroken : Type 0
WhyBroken = (l : List ℕ) → length l ≡ image_size → Explains (view l) (reason_of l)
