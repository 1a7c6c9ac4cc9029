-- The binary digits of a number: what the bit operations do to each, and that they say all of it.
use Rattle.std.specs.Prelude.{◌≡◌, ℕ, zero, suc, ◌+◌, ◌*◌, ◌/◌, ◌%◌, ◌^◌, ◌≤◌, ◌<◌}
use Rattle.std.proofs.Common.{sym, ap, ap₂, ◌∙◌, subst, one-mul, mod-lt, div-one, div-add-mod', div-lt_iff_lt-mul, le-div_iff_mul-le, pow-suc, one-add, arith, pow_pos, pow-add, shr-shr}
use Rattle.std.proofs.Math.Nat.{div-eq_of_lt}
use Rattle.std.proofs.Math.Arith.{lt-one}
use Rattle.std.specs.Int.Bits.{bit_and, bit_or, bit_xor, shifted_even}
use Rattle.std.proofs.lemmas.Nat.{and_shr, or_shr, xor_shr, and_mod, or_mod, xor_mod, shl-shr}
use Rattle.std.proofs.Math.Pow.{pow-lt}

-- Digit p, counted from the lowest, which is digit 0.
abbrev pub digit : (p w : ℕ) → ℕ
digit p w = w / 2 ^ p % 2

-- It is 0 or 1.
pub digit_lt : (p w : ℕ) → digit p w < 2
digit_lt p w = mod-lt (w / 2 ^ p) (omega arith)

-- The three operations work on each digit apart.
pub digit_and : (p a b : ℕ) → digit p (bit_and a b) ≡ bit_and (digit p a) (digit p b)
digit_and p a b = ap (λ (x : ℕ). x % 2) (and_shr a b p) ∙ and_mod (a / 2 ^ p) (b / 2 ^ p) 1

pub digit_or : (p a b : ℕ) → digit p (bit_or a b) ≡ bit_or (digit p a) (digit p b)
digit_or p a b = ap (λ (x : ℕ). x % 2) (or_shr a b p) ∙ or_mod (a / 2 ^ p) (b / 2 ^ p) 1

pub digit_xor : (p a b : ℕ) → digit p (bit_xor a b) ≡ bit_xor (digit p a) (digit p b)
digit_xor p a b = ap (λ (x : ℕ). x % 2) (xor_shr a b p) ∙ xor_mod (a / 2 ^ p) (b / 2 ^ p) 1

-- A number below 2 ^ p has no digit p.
pub digit-above : (p w : ℕ) → w < 2 ^ p → digit p w ≡ 0
digit-above p w h = ap (λ (x : ℕ). x % 2) (div-eq_of_lt h)

-- The digits of half a number are its next ones.
pub digit-half : (p w : ℕ) → digit p (w / 2) ≡ digit (suc p) w
digit-half p w = ap (λ (x : ℕ). x % 2) (shr-shr w 1 p ∙ ap (λ (n : ℕ). w / 2 ^ n) (one-add p))

-- The highest digit is 1.
pub digit_top : (p w : ℕ) → 2 ^ p ≤ w → w < 2 ^ suc p → digit p w ≡ 1
digit_top p w h k =
    let least : 1 ≤ w / 2 ^ p = (le-div_iff_mul-le (pow_pos p)).1 (subst (λ (x : ℕ). x ≤ w) (sym (one-mul (2 ^ p))) h) in
    let most : w / 2 ^ p < 2 = (div-lt_iff_lt-mul (pow_pos p)).1 (subst (λ (x : ℕ). w < x) (pow-suc 2 p ∙ twice (2 ^ p)) k) in
    ap (λ (x : ℕ). x % 2) (one least most)
  where
    twice : (x : ℕ) → x * 2 ≡ 2 * x
    twice x = omega arith

    one : {x : ℕ} → 1 ≤ x → x < 2 → x ≡ 1
    one h k = omega arith

-- A power of two has its own digit,
pub digit-itself : (p : ℕ) → digit p (2 ^ p) ≡ 1
digit-itself p = digit_top p (2 ^ p) (omega arith) (pow-lt (omega arith))

-- and none below it.
pub digit-below : (p k : ℕ) → digit p (2 ^ (suc k + p)) ≡ 0
digit-below p k =
    ap (λ (x : ℕ). x / 2 ^ p % 2) (pow-add 2 (suc k) p) ∙ ap (λ (x : ℕ). x % 2) (shl-shr (2 ^ suc k) p ∙ sym (one-mul (2 ^ suc k))) ∙ shifted_even 1 k

-- Two numbers of n digits with the same digits are the same.
pub digits_same : (n w v : ℕ) → w < 2 ^ n → v < 2 ^ n → ((p : ℕ) → p < n → digit p w ≡ digit p v) → w ≡ v
digits_same zero w v h k same = lt-one h ∙ sym (lt-one k)
digits_same (suc n) w v h k same =
    sym (div-add-mod' w 2)
    ∙ ap₂ (λ (x y : ℕ). x * 2 + y)
    (digits_same n (w / 2) (v / 2) (half w h) (half v k) (λ p l. digit-half p w ∙ same (suc p) (omega arith) ∙ sym (digit-half p v)))
    (lowest w ∙ same 0 (omega arith) ∙ sym (lowest v))
    ∙ div-add-mod' v 2
  where
    half : (x : ℕ) → x < 2 ^ suc n → x / 2 < 2 ^ n
    half x l = (div-lt_iff_lt-mul {k = 2} (omega arith)).1 (subst (λ (y : ℕ). x < y) (pow-suc 2 n) l)

    lowest : (x : ℕ) → x % 2 ≡ digit 0 x
    lowest x = ap (λ (y : ℕ). y % 2) (sym (div-one x))
