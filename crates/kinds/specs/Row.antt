-- The list of kinds as the code has it: a row for each kind byte.
use Rattle.std.specs.Prelude.{Bool, Option, Some, None, List, [], ◌∷◌, ◌≢◌, ◌≡◌, refl, ℕ, zero, suc, ◌+◌, ◌-◌, ◌*◌, ◌/◌, ◌%◌, ◌≤◌, ◌<◌, length, get_or, drop}
use Rattle.std.proofs.Common.{sym, ap, ◌∙◌, arith}
use Rattle.std.proofs.Math.Seq.{drop-nil}
use Rattle.rules.specs.Kinds.{kinds, told_of, widths, is_interrupt, plain_kind, of_kind, reading}
use Rattle.std.specs.Option.{option_map, option_map_or}
use Rattle.rules.specs.KindLaws.{Each, told_none, told_of_lem, widths-narrow}
use Rattle.rules.specs.Tape.{sum, body_length}
use Rattle.rules.specs.declared.Call.{Call}
use Rattle.rules.specs.declared.Reading.{Reading}

-- The widths of a body in one number: a hexadecimal digit for each, the first the lowest.
unfoldable pub packed : List ℕ → ℕ
packed [] = 0
packed (w ∷ ws) = w + 16 * packed ws

-- A kind's call and its widths.
abbrev pub Row : Type 0
Row = Call × ℕ

unfoldable pub row_of : ℕ → List ℕ → Option Row
row_of k numbers = told_of k (λ r. Some (r.call (λ i. get_or numbers i 0), packed r.widths)) None

-- ---- what a row has

-- A byte that is in no row.
pub row_none : (k : ℕ) (numbers : List ℕ) → Each (λ r. k ≢ r.byte) kinds → None ≡ row_of k numbers
unfolding row_of
row_none k numbers h = sym (told_none k kinds _ None h)

-- Its widths,
abbrev pub widths_in : Option Row → ℕ
widths_in row = option_map_or (λ (x : Row). x.1) row 0

pub row-widths : (k : ℕ) (numbers : List ℕ) → widths_in (row_of k numbers) ≡ packed (widths k)
unfolding row_of packed widths
row-widths k numbers = told_of_lem widths_in kinds k _ None ∙ sym (told_of_lem packed kinds k (λ r. r.widths) [])

-- and what it says.
abbrev pub said_in : Bool → Option Row → Reading
said_in interrupt row = record { call = option_map (λ (x : Row). x.0) row; interrupt = interrupt }

pub row-says : (kind : ℕ) (numbers : List ℕ) → said_in (is_interrupt kind) (row_of (plain_kind kind) numbers) ≡ reading kind numbers
unfolding row_of of_kind reading
row-says kind numbers = told_of_lem (said_in (is_interrupt kind)) kinds _ _ None

-- ---- the digits

-- The lowest digit is the next width, and above it are those of the rest.
pub digit_first : (ws : List ℕ) (i : ℕ) → ((j : ℕ) → get_or ws j 0 ≤ 4) → packed (drop i ws) % 16 ≡ get_or ws i 0
unfolding packed
digit_first [] i h = rw drop-nil
digit_first (w ∷ ws) zero h = omega (arith, h 0)
digit_first (w ∷ ws) (suc i) h = digit_first ws i (λ j. h (suc j))

pub digits_rest : (ws : List ℕ) (i : ℕ) → ((j : ℕ) → get_or ws j 0 ≤ 4) → packed (drop i ws) / 16 ≡ packed (drop (suc i) ws)
unfolding packed
digits_rest [] i h = rw drop-nil
digits_rest (w ∷ ws) zero h = omega (arith, h 0)
digits_rest (w ∷ ws) (suc i) h = digits_rest ws i (λ j. h (suc j))

-- ---- the length of a body is the sum of its digits

-- The n lowest digits of p added up.
unfoldable pub digit_sum : (n p : ℕ) → ℕ
digit_sum zero p = 0
digit_sum (suc n) p = p % 16 + digit_sum n (p / 16)

-- One digit, and then the others.
pub digit_next : (n p i : ℕ) → i < n → digit_sum (n - i) p ≡ p % 16 + digit_sum (n - (i + 1)) (p / 16)
unfolding digit_sum
digit_next n p i h = let e : n - i ≡ suc (n - (i + 1)) = omega arith in ap (λ (k : ℕ). digit_sum k p) e

digits_small : (n p : ℕ) → digit_sum n p ≤ 15 * n
unfolding digit_sum
digits_small zero p = omega arith
digits_small (suc n) p = omega (arith, digits_small n (p / 16))

no_digits : (n : ℕ) → digit_sum n 0 ≡ 0
unfolding digit_sum
no_digits zero = refl
no_digits (suc n) = omega (arith, no_digits n)

digits_sum : (n : ℕ) (ws : List ℕ) → length ws ≤ n → ((i : ℕ) → get_or ws i 0 ≤ 4) → digit_sum n (packed ws) ≡ sum ws
unfolding digit_sum packed sum
digits_sum n [] l h = no_digits n
digits_sum zero (w ∷ ws) l h = absurd (omega arith)
digits_sum (suc n) (w ∷ ws) l h =
    rw (digit_first (w ∷ ws) 0 h, digits_rest (w ∷ ws) 0 h, digits_sum n ws (omega arith) (λ i. h (suc i)))

pub body_digits : (kind p : ℕ) {k : ℕ} → k ≡ plain_kind kind → p ≡ packed (widths k) → digit_sum 6 p ≡ body_length kind
unfolding body_length
body_digits kind p k e =
    let n = widths-narrow (plain_kind kind) in
    rw (e, k) (digits_sum 6 (widths (plain_kind kind)) n.six n.four)

-- Six digits add up to 90 at most.
pub body_short : (kind : ℕ) → body_length kind ≤ 90
body_short kind = rw (← body_digits kind (packed (widths (plain_kind kind))) refl refl) (digits_small 6 (packed (widths (plain_kind kind))))
