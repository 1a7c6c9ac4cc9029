-- The numbers of a body, each behind those before it.
use Rattle.std.specs.Prelude.{◌≡◌, refl, List, [], ◌∷◌, ◌++◌, ℕ, zero, suc, ◌+◌, ◌≤◌, length, get_or, take, drop}
use Rattle.std.proofs.Common.{ap, arith, drop-drop, length-drop}
use Rattle.std.proofs.Math.Seq.{take-nil}
use Rattle.std.proofs.lemmas.List.{take-append-le, drop-append-le}
use Rattle.rules.specs.Kinds.{widths, plain_kind}
use Rattle.rules.specs.Tape.{little, numbers, sum, body_length, call_in}

-- The number i of a body stands behind those before it.
pub numbers_at : (ws : List ℕ) (i : ℕ) (l : List ℕ) → get_or (numbers ws l) i 0 ≡ little (take (get_or ws i 0) (drop (sum (take i ws)) l))
unfolding numbers sum little
numbers_at [] i l = refl
numbers_at (w ∷ ws) zero l = refl
numbers_at (w ∷ ws) (suc i) l = rw (numbers_at ws i (drop w l), drop-drop)

-- Where the next number stands.
pub sum_next : (ws : List ℕ) (i : ℕ) → sum (take (suc i) ws) ≡ sum (take i ws) + get_or ws i 0
unfolding sum
sum_next [] i = simp take-nil
sum_next (w ∷ ws) zero = omega arith
sum_next (w ∷ ws) (suc i) = let e = sum_next ws i in omega arith

-- It stands within the body.
pub sum-part : (ws : List ℕ) (i : ℕ) → sum (take i ws) ≤ sum ws
unfolding sum
sum-part [] i = simp take-nil (omega arith)
sum-part (w ∷ ws) zero = omega arith
sum-part (w ∷ ws) (suc i) = omega (arith, sum-part ws i)

pub numbers-length : (ws l : List ℕ) → length (numbers ws l) ≡ length ws
unfolding numbers
numbers-length [] l = refl
numbers-length (w ∷ ws) l = ap suc (numbers-length ws (drop w l))

numbers_append : (ws l more : List ℕ) → sum ws ≤ length l → numbers ws (l ++ more) ≡ numbers ws l
unfolding sum numbers
numbers_append [] l more h = refl
numbers_append (w ∷ ws) l more h =
    let a : w ≤ length l = omega arith in
    let b : sum ws ≤ length (drop w l) = simp length-drop (omega arith) in
    rw (take-append-le w l more a, drop-append-le w l more a, numbers_append ws (drop w l) more b)

-- What follows a body is not looked at.
pub call_append : (kind : ℕ) (body more : List ℕ) → body_length kind ≤ length body → call_in kind (body ++ more) ≡ call_in kind body
unfolding body_length call_in
call_append kind body more h = rw (numbers_append (widths (plain_kind kind)) body more h)
