-- Numbers of one, two, four and eight bytes, as the code reads and stores them.
use Rattle.std.specs.Prelude.{◌≡◌, refl, List, ◌∷◌, ℕ, zero, suc, ◌+◌, ◌*◌, ◌≤◌, ◌<◌, ◌/◌, ◌%◌, ◌^◌, length, get_or, set, take, drop}
use Rattle.std.specs.Int.{w16, w32, w64, to_le_bytes, byte_at, bytes_low_first}
use Rattle.std.proofs.Common.{sym, ap, ap₂, ◌∙◌, append_assoc, add-zero, pow-suc, arith, drop-drop, get_or-drop}
use Rattle.std.proofs.Math.Nat.{div-one, div-div-eq-div-mul}
use Rattle.std.proofs.lemmas.List.Edits.{sets, sets-eq}
use Rattle.columns.specs.Columns.{word, bytes, splice, word_at, put_at}
use Rattle.columns.specs.Words.{bytes-long, byte-read}

-- The bytes of a number, as std's `to_le_bytes` and as `bytes` give them.
byte : (i n : ℕ) → byte_at i n ≡ n / 256 ^ i % 256
byte zero n = rw (div-one n)
byte (suc i) n = refl

same_bytes : (i k n : ℕ) → bytes_low_first i k n ≡ bytes k (n / 256 ^ i)
unfolding bytes
same_bytes i zero n = refl
same_bytes i (suc k) n =
    let e : n / 256 ^ suc i ≡ n / 256 ^ i / 256 = rw (pow-suc 256 i) (sym (div-div-eq-div-mul n (256 ^ i) 256)) in
    ap₂ (λ (b : ℕ) (bs : List ℕ). b ∷ bs) (byte i n) (same_bytes (suc i) k n ∙ ap (bytes k) e)

lowest_first : (k n : ℕ) → bytes_low_first 0 k n ≡ bytes k n
lowest_first k n = same_bytes 0 k n ∙ ap (bytes k) (div-one n)

module _ (l : List ℕ) where
  -- One byte, and the number behind it.
  step : (w a b : ℕ) → a + 1 ≡ b → word_at (suc w) a l ≡ get_or l a 0 + 256 * word_at w b l
  unfolding word
  step w a b e = rw (get_or-drop a l 0 0, add-zero a, drop-drop 1 a l, e)

  pub read2 : (a : ℕ) → get_or l a 0 + 256 * get_or l (a + 1) 0 ≡ word_at 2 a l
  read2 a = omega (arith, step 1 a (a + 1) refl, byte-read (a + 1) l)

  pub read4 : (a : ℕ) → get_or l a 0 + 256 * get_or l (a + 1) 0 + 65536 * get_or l (a + 2) 0 + 16777216 * get_or l (a + 3) 0 ≡ word_at 4 a l
  read4 a = omega (arith, step 3 a (a + 1) refl, step 2 (a + 1) (a + 2) (omega arith), step 1 (a + 2) (a + 3) (omega arith), byte-read (a + 3) l)

  pub read8 : (a : ℕ) → get_or l a 0 + 256 * get_or l (a + 1) 0 + 65536 * get_or l (a + 2) 0 + 16777216 * get_or l (a + 3) 0 + 4294967296 * get_or l (a + 4) 0 + 1099511627776 * get_or l (a + 5) 0 + 281474976710656 * get_or l (a + 6) 0 + 72057594037927936 * get_or l (a + 7) 0 ≡ word_at 8 a l
  read8 a =
      let high : word_at 4 (a + 4) l ≡ get_or l (a + 4) 0 + 256 * get_or l (a + 5) 0 + 65536 * get_or l (a + 6) 0 + 16777216 * get_or l (a + 7) 0 =
      omega (arith, step 3 (a + 4) (a + 5) (omega arith), step 2 (a + 5) (a + 6) (omega arith), step 1 (a + 6) (a + 7) (omega arith), byte-read (a + 7) l) in
      omega (arith, high, step 7 a (a + 1) refl, step 6 (a + 1) (a + 2) (omega arith), step 5 (a + 2) (a + 3) (omega arith), step 4 (a + 3) (a + 4) (omega arith))

  module _ (a v : ℕ) where
    -- The bytes of a number, stored one after the other.
    stored : (w : ℕ) → a + w ≤ length l → sets l a (bytes w v) ≡ put_at w a v l
    unfolding splice
    stored w h = let n : length (bytes w v) ≡ w = bytes-long w v in sets-eq (bytes w v) l a (omega arith) ∙ rw n (append_assoc (take a l) (bytes w v) (drop (a + w) l))

    pub put1 : v < 256 → a + 1 ≤ length l → set l a v ≡ put_at 1 a v l
    unfolding bytes
    put1 f h = let e : v ≡ v % 256 = omega arith in ap (set l a) e ∙ stored 1 h

    module _ (b : List ℕ) where
      pub put2 : b ≡ to_le_bytes w16 v → a + 2 ≤ length l → set (set l a (get_or b 0 0)) (a + 1) (get_or b 1 0) ≡ put_at 2 a v l
      unfolding bytes
      put2 e h =
          let p : b ≡ bytes 2 v = e ∙ lowest_first 2 v in
          let f : a + 1 ≡ suc a = omega arith in
          rw (p, f) (stored 2 h)

      pub put4 : b ≡ to_le_bytes w32 v → a + 4 ≤ length l → set (set (set (set l a (get_or b 0 0)) (a + 1) (get_or b 1 0)) (a + 2) (get_or b 2 0)) (a + 3) (get_or b 3 0) ≡ put_at 4 a v l
      unfolding bytes
      put4 e h =
          let p : b ≡ bytes 4 v = e ∙ lowest_first 4 v in
          let f : a + 1 ≡ suc a = omega arith in
          let g : a + 2 ≡ suc (suc a) = omega arith in
          let i : a + 3 ≡ suc (suc (suc a)) = omega arith in
          rw (p, f, g, i) (stored 4 h)

      pub put8 : b ≡ to_le_bytes w64 v → a + 8 ≤ length l → set (set (set (set (set (set (set (set l a (get_or b 0 0)) (a + 1) (get_or b 1 0)) (a + 2) (get_or b 2 0)) (a + 3) (get_or b 3 0)) (a + 4) (get_or b 4 0)) (a + 5) (get_or b 5 0)) (a + 6) (get_or b 6 0)) (a + 7) (get_or b 7 0) ≡ put_at 8 a v l
      unfolding bytes
      put8 e h =
          let p : b ≡ bytes 8 v = e ∙ lowest_first 8 v in
          let f : a + 1 ≡ suc a = omega arith in
          let g : a + 2 ≡ suc (suc a) = omega arith in
          let i : a + 3 ≡ suc (suc (suc a)) = omega arith in
          let j : a + 4 ≡ suc (suc (suc (suc a))) = omega arith in
          let k : a + 5 ≡ suc (suc (suc (suc (suc a)))) = omega arith in
          let m : a + 6 ≡ suc (suc (suc (suc (suc (suc a))))) = omega arith in
          let o : a + 7 ≡ suc (suc (suc (suc (suc (suc (suc a)))))) = omega arith in
          rw (p, f, g, i, j, k, m, o) (stored 8 h)
