-- A number of up to four bytes, by how many there are.
use Rattle.std.specs.Prelude.{◌≡◌, List, [], ◌∷◌, ◌++◌, ℕ, ◌≤◌, ◌<◌, length, get_or, drop}
use Rattle.std.specs.Int.{w32, from_le_bytes}
use Rattle.std.proofs.Common.{arith}
use Rattle.rules.specs.Tape.{little}

-- Zeros behind them do not count.
pub padded : (bytes : List ℕ) → length bytes ≤ 4 → from_le_bytes w32 (bytes ++ drop (length bytes) (0 ∷ 0 ∷ 0 ∷ 0 ∷ [])) ≡ little bytes
unfolding little
padded [] h = omega arith
padded (a ∷ []) h = omega arith
padded (a ∷ b ∷ []) h = omega arith
padded (a ∷ b ∷ c ∷ []) h = omega arith
padded (a ∷ b ∷ c ∷ d ∷ []) h = omega arith
padded (a ∷ b ∷ c ∷ d ∷ e ∷ bytes) h = absurd (omega arith)

pub of_none : (l : List ℕ) → length l < 1 → 0 ≡ little l
unfolding little
of_none [] h = omega arith
of_none (a ∷ l) h = absurd (omega arith)

pub of_one : (l : List ℕ) → 1 ≤ length l → length l < 2 → from_le_bytes w32 (get_or l 0 0 ∷ 0 ∷ 0 ∷ 0 ∷ []) ≡ little l
of_one [] g h = absurd (omega arith)
of_one (a ∷ []) g h = padded (a ∷ []) (omega arith)
of_one (a ∷ b ∷ l) g h = absurd (omega arith)

pub of_two : (l : List ℕ) → 2 ≤ length l → length l < 3 → from_le_bytes w32 (get_or l 0 0 ∷ get_or l 1 0 ∷ 0 ∷ 0 ∷ []) ≡ little l
of_two [] g h = absurd (omega arith)
of_two (a ∷ []) g h = absurd (omega arith)
of_two (a ∷ b ∷ []) g h = padded (a ∷ b ∷ []) (omega arith)
of_two (a ∷ b ∷ c ∷ l) g h = absurd (omega arith)

pub of_three : (l : List ℕ) → 3 ≤ length l → length l < 4 → from_le_bytes w32 (get_or l 0 0 ∷ get_or l 1 0 ∷ get_or l 2 0 ∷ 0 ∷ []) ≡ little l
of_three [] g h = absurd (omega arith)
of_three (a ∷ []) g h = absurd (omega arith)
of_three (a ∷ b ∷ []) g h = absurd (omega arith)
of_three (a ∷ b ∷ c ∷ []) g h = padded (a ∷ b ∷ c ∷ []) (omega arith)
of_three (a ∷ b ∷ c ∷ d ∷ l) g h = absurd (omega arith)

pub of_four : (l : List ℕ) → 4 ≤ length l → length l ≤ 4 → from_le_bytes w32 (get_or l 0 0 ∷ get_or l 1 0 ∷ get_or l 2 0 ∷ get_or l 3 0 ∷ []) ≡ little l
of_four [] g h = absurd (omega arith)
of_four (a ∷ []) g h = absurd (omega arith)
of_four (a ∷ b ∷ []) g h = absurd (omega arith)
of_four (a ∷ b ∷ c ∷ []) g h = absurd (omega arith)
of_four (a ∷ b ∷ c ∷ d ∷ []) g h = padded (a ∷ b ∷ c ∷ d ∷ []) (omega arith)
of_four (a ∷ b ∷ c ∷ d ∷ e ∷ l) g h = absurd (omega arith)
