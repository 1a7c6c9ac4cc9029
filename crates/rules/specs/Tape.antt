-- "The call tape and its printer".
use Rattle.std.specs.Prelude.{Bool, cond, List, [], ◌∷◌, ◌++◌, ℕ, zero, suc, ◌+◌, ◌-◌, ◌*◌, ◌/◌, ◌%◌, ◌<◌, eqb, ltb, length, get_or, take, drop, Some, None}
use Rattle.rules.specs.Table.{Table, fresh_table}
use Rattle.rules.specs.Step.{Outcome, step}
use Rattle.rules.specs.Kinds.{widths, plain_kind, reading}
use Rattle.rules.specs.declared.Call.{Call}
use Rattle.rules.specs.declared.Reading.{Reading}

-- Each number of the list is a byte.
abbrev pub Bytes : List ℕ → Type 0
Bytes l = (j : ℕ) → get_or l j 0 < 256

-- ---- from bytes to calls: "one byte of kind, then a body whose length the kind fixes. Numbers above a byte are little-endian."

unfoldable pub little : List ℕ → ℕ
little [] = 0
little (x ∷ xs) = x + 256 * little xs

unfoldable pub sum : List ℕ → ℕ
sum [] = 0
sum (x ∷ xs) = x + sum xs

unfoldable pub numbers : List ℕ → List ℕ → List ℕ
numbers [] l = []
numbers (w ∷ ws) l = little (take w l) ∷ numbers ws (drop w l)

-- The length of the body that follows a kind byte.
unfoldable pub body_length : ℕ → ℕ
body_length kind = sum (widths (plain_kind kind))

-- The call that a kind byte and its body say.
unfoldable pub call_in : ℕ → List ℕ → Reading
call_in kind body = reading kind (numbers (widths (plain_kind kind)) body)

-- ---- from calls to lines: "For each call one line: answer, a space, the running task's number or `-`."

-- The digits of a number below 100.
unfoldable pub decimal : ℕ → List ℕ
decimal n = cond (ltb n 10) ((48 + n) ∷ []) ((48 + n / 10) ∷ (48 + n % 10) ∷ [])

-- The running task's number, or 2Dh, `-`.
unfoldable pub runner : ℕ → List ℕ
runner v = cond (eqb v 0) (0x2D ∷ []) (decimal (v - 1))

unfoldable pub line : Outcome → List ℕ
line o = decimal o.answer ++ (0x20 ∷ runner o.runs) ++ (0x0A ∷ [])

-- `bad`
abbrev pub bad_line : List ℕ
bad_line = 0x62 ∷ 0x61 ∷ 0x64 ∷ 0x0A ∷ []

-- ---- the tape: "An unknown kind or a cut body prints `bad` and ends."

-- What is printed of one call, and then of the rest from the table that it left; `cut` is whether its body is cut.
unfoldable pub printed_of : (Call → Bool → Table → Outcome) → Table → Bool → (Table → List ℕ) → Reading → List ℕ
printed_of serves t cut rest r = elim (r.call) as (λ _. List ℕ) [
  | Some c ↦
      let o = serves c r.interrupt t in
      let lines = line o ++ rest o.table in
      cond cut bad_line lines
  | None ↦ bad_line
]

-- What is printed of the tape l from the table t, for n calls at most, where `serves` is what a call does.
unfoldable pub printed : (Call → Bool → Table → Outcome) → ℕ → Table → List ℕ → List ℕ
printed serves zero t l = []
printed serves (suc n) t [] = []
printed serves (suc n) t (kind ∷ body) =
    printed_of serves t (ltb (length body) (body_length kind)) (λ u. printed serves n u (drop (body_length kind) body)) (call_in kind body)

-- "A program starts from the fresh table and reads a tape". A call takes a byte or more, so there are no more calls than bytes.
unfoldable pub tape : List ℕ → List ℕ
tape l = printed step (length l) fresh_table l
