-- One number and one column: what is written is read, and a write leaves the rest.
use Rattle.std.specs.Prelude.{◌≡◌, refl, List, [], ◌∷◌, ◌++◌, ℕ, zero, suc, ◌+◌, ◌*◌, ◌-◌, ◌≤◌, ◌<◌, ◌/◌, ◌%◌, ◌^◌, length, get_or, set, take, drop}
use Rattle.std.proofs.Common.{sym, ap, ap₂, ◌∙◌, append_assoc, not-suc-le-zero, add_assoc, add_comm, mul-zero, mul-suc, pow-suc, zero-add, add-zero, arith, length-append, length-drop, take-append-drop, length-take-le, take-add, drop_at, drop-drop, get_or-drop}
use Rattle.std.proofs.lemmas.List.{drop-append-le}
use Rattle.std.proofs.Math.Seq.{drop-append-add}
use Rattle.columns.specs.Columns.{word, bytes, splice, word_at, put_at, numbers, spelled, Bytes, Below}

-- ---- one number

pub bytes-long : (w n : ℕ) → length (bytes w n) ≡ w
unfolding bytes
bytes-long zero n = refl
bytes-long (suc w) n = ap suc (bytes-long w (n / 256))

below_next : (w n : ℕ) → n < 256 ^ suc w → n / 256 < 256 ^ w
below_next w n h = let p : n < 256 ^ w * 256 = rw (pow-suc 256 w) at h in omega arith

pub word_bytes : (w n : ℕ) (r : List ℕ) → n < 256 ^ w → word w (bytes w n ++ r) ≡ n
unfolding word bytes
word_bytes zero n r h = omega (arith, h)
word_bytes (suc w) n r h = rw (word_bytes w (n / 256) r (below_next w n h)) (omega arith)

pub bytes_word : (w : ℕ) (l : List ℕ) → Bytes l → w ≤ length l → bytes w (word w l) ≡ take w l
unfolding word bytes
bytes_word zero l b h = refl
bytes_word (suc w) [] b h = absurd (not-suc-le-zero h)
bytes_word (suc w) (x ∷ l) b h =
    let k : x < 256 = b 0 in
    let low : (x + 256 * word w l) % 256 ≡ x = omega arith in
    let high : (x + 256 * word w l) / 256 ≡ word w l = omega arith in
    rw (low, high) (ap (λ (r : List ℕ). x ∷ r) (bytes_word w l (λ j. b (suc j)) (omega arith)))

-- One byte is its number.
pub byte-read : (a : ℕ) (l : List ℕ) → get_or l a 0 ≡ word_at 1 a l
unfolding word
byte-read a l = rw (get_or-drop a l 0 0, add-zero a) (omega arith)

-- Only the first w bytes count.
word_front : (w : ℕ) (l r : List ℕ) → w ≤ length l → word w (l ++ r) ≡ word w l
unfolding word
word_front zero l r h = refl
word_front (suc w) [] r h = absurd (not-suc-le-zero h)
word_front (suc w) (x ∷ l) r h = ap (λ (y : ℕ). x + 256 * y) (word_front w l r (omega arith))

word_kept : (w : ℕ) (l r : List ℕ) → w ≤ length l → word w (take w l ++ r) ≡ word w l
word_kept w l r h =
    let e : length (take w l) ≡ w = length-take-le w l h in
    word_front w (take w l) r (omega arith) ∙ sym (word_front w (take w l) (drop w l) (omega arith)) ∙ ap (word w) (take-append-drop w l)

-- ---- a list with other bytes in it

splice_first : (w : ℕ) (ys l : List ℕ) → splice w 0 ys l ≡ ys ++ drop w l
unfolding splice
splice_first w ys l = rw (zero-add w)

-- Behind the first m bytes.
pub splice_past : (w m a : ℕ) (ys l : List ℕ) → splice w (m + a) ys l ≡ take m l ++ splice w a ys (drop m l)
unfolding splice
splice_past w m a ys l = rw (take-add m a l, append_assoc, drop-drop (a + w) m l, add_assoc m a w)

-- Within the first m bytes.
pub splice-drop : (w a m : ℕ) (ys l : List ℕ) → length ys ≡ w → a + w ≤ m → m ≤ length l → drop m (splice w a ys l) ≡ drop m l
unfolding splice
splice-drop w a m ys l s h k =
    let xs : List ℕ = take a l ++ ys in
    let n : length xs ≡ a + w = length-append (take a l) ys ∙ ap₂ (λ (p q : ℕ). p + q) (length-take-le a l (omega arith)) s in
    let e : m ≡ length xs + (m - (a + w)) = omega arith in
    let f : a + w + (m - (a + w)) ≡ m = omega arith in
    ap (λ (z : List ℕ). drop m z) (sym (append_assoc (take a l) ys (drop (a + w) l)))
    ∙ ap (λ (z : ℕ). drop z (xs ++ drop (a + w) l)) e
    ∙ drop-append-add xs (drop (a + w) l) (m - (a + w))
    ∙ drop-drop (m - (a + w)) (a + w) l
    ∙ ap (λ (z : ℕ). drop z l) f

pub splice-long : (w a : ℕ) (ys l : List ℕ) → length ys ≡ w → a + w ≤ length l → length (splice w a ys l) ≡ length l
unfolding splice
splice-long w a ys l s h = simp (length-append, length-drop) (omega (arith, length-take-le a l (omega arith)))

-- A number put after others: a function's stores, from the last to the first.
pub then : (w a v : ℕ) (m p q : List ℕ) → m ≡ put_at w a v p → p ≡ q → m ≡ put_at w a v q
then w a v m p q e f = e ∙ ap (put_at w a v) f

-- ---- one column

pub numbers-long : (w n : ℕ) (l : List ℕ) → length (numbers w n l) ≡ n
unfolding numbers
numbers-long w zero l = refl
numbers-long w (suc n) l = ap suc (numbers-long w n (drop w l))

-- Only the column's bytes count.
numbers_front : (w n : ℕ) (l r : List ℕ) → w * n ≤ length l → numbers w n (l ++ r) ≡ numbers w n l
unfolding numbers
numbers_front w zero l r h = refl
numbers_front w (suc n) l r h =
    let k : w * n + w ≤ length l = rw (mul-suc w n) at h in
    ap₂ (λ (x : ℕ) (xs : List ℕ). x ∷ xs) (word_front w l r (omega arith))
    (ap (numbers w n) (drop-append-le w l r (omega arith)) ∙ numbers_front w n (drop w l) r (simp length-drop (omega arith)))

-- A whole column that is put there.
pub numbers_first : (w n : ℕ) (ys l : List ℕ) → length ys ≡ w * n → numbers w n (splice (w * n) 0 ys l) ≡ numbers w n ys
numbers_first w n ys l h = ap (numbers w n) (splice_first (w * n) ys l) ∙ numbers_front w n ys (drop (w * n) l) (omega arith)

-- The numbers of one byte are the bytes.
pub numbers_one : (n : ℕ) (l : List ℕ) → n ≤ length l → numbers 1 n l ≡ take n l
unfolding numbers word
numbers_one zero l h = refl
numbers_one (suc n) [] h = absurd (not-suc-le-zero h)
numbers_one (suc n) (x ∷ l) h = ap₂ (λ (y : ℕ) (r : List ℕ). y ∷ r) (omega arith) (numbers_one n l (omega arith))

pub numbers_kept : (w n m : ℕ) (l r : List ℕ) → w * n ≤ m → m ≤ length l → numbers w n (take m l ++ r) ≡ numbers w n l
numbers_kept w n m l r h k =
    let e : length (take m l) ≡ m = length-take-le m l k in
    numbers_front w n (take m l) r (omega arith) ∙ sym (numbers_front w n (take m l) (drop m l) (omega arith)) ∙ ap (numbers w n) (take-append-drop m l)

-- Entry i is the number at w * i.
pub numbers_at : (w n i : ℕ) (l : List ℕ) → i < n → get_or (numbers w n l) i 0 ≡ word_at w (w * i) l
unfolding numbers
numbers_at w zero i l h = absurd (not-suc-le-zero h)
numbers_at w (suc n) zero l h = rw (mul-zero w)
numbers_at w (suc n) (suc i) l h = numbers_at w n i (drop w l) (omega arith) ∙ rw (drop-drop (w * i) w l, mul-suc w i, add_comm w (w * i))

-- A number put at w * i is entry i, and no other entry changes.
pub numbers-put : (w n i v : ℕ) (l : List ℕ) → i < n → w * n ≤ length l → v < 256 ^ w → numbers w n (put_at w (w * i) v l) ≡ set (numbers w n l) i v
unfolding numbers
numbers-put w zero i v l h k f = absurd (not-suc-le-zero h)
numbers-put w (suc n) zero v l h k f = rw (mul-zero w, splice_first w (bytes w v) l) (ap₂ (λ (x : ℕ) (xs : List ℕ). x ∷ xs) (word_bytes w v (drop w l) f) (ap (numbers w n) (drop_at (bytes w v) (drop w l) w (bytes-long w v))))
numbers-put w (suc n) (suc i) v l h k f =
    let p : w * n + w ≤ length l = rw (mul-suc w n) at k in
    let e : w * suc i ≡ w + w * i = mul-suc w i ∙ add_comm (w * i) w in
    rw (e, splice_past w w (w * i) (bytes w v) l)
    (ap₂ (λ (x : ℕ) (xs : List ℕ). x ∷ xs)
    (word_kept w l (put_at w (w * i) v (drop w l)) (omega arith))
    (ap (numbers w n) (drop_at (take w l) (put_at w (w * i) v (drop w l)) w (length-take-le w l (omega arith)))
    ∙ numbers-put w n i v (drop w l) (omega arith) (simp length-drop (omega arith)) f))

-- ---- the bytes of a column and its numbers determine each other

pub numbers-spelled : (w : ℕ) (xs r : List ℕ) → Below w xs → numbers w (length xs) (spelled w xs ++ r) ≡ xs
unfolding numbers spelled
numbers-spelled w [] r b = refl
numbers-spelled w (x ∷ xs) r b =
    rw (append_assoc (bytes w x) (spelled w xs) r, word_bytes w x (spelled w xs ++ r) (b 0), drop_at (bytes w x) (spelled w xs ++ r) w (bytes-long w x))
    (ap (λ (z : List ℕ). x ∷ z) (numbers-spelled w xs r (λ i. b (suc i))))

pub bytes_drop : (m : ℕ) (l : List ℕ) → Bytes l → Bytes (drop m l)
bytes_drop m l b j = rw (get_or-drop m l j 0) (b (m + j))

pub bytes_take : (m : ℕ) (l : List ℕ) → Bytes l → Bytes (take m l)
bytes_take zero l b j = omega arith
bytes_take (suc m) [] b j = omega arith
bytes_take (suc m) (x ∷ l) b zero = b 0
bytes_take (suc m) (x ∷ l) b (suc j) = bytes_take m l (λ i. b (suc i)) j

pub spelled-numbers : (w n : ℕ) (l : List ℕ) → Bytes l → w * n ≤ length l → spelled w (numbers w n l) ≡ take (w * n) l
unfolding numbers spelled
spelled-numbers w zero l b h = rw (mul-zero w)
spelled-numbers w (suc n) l b h =
    let k : w * n + w ≤ length l = rw (mul-suc w n) at h in
    let e : w * suc n ≡ w + w * n = mul-suc w n ∙ add_comm (w * n) w in
    rw (bytes_word w l b (omega arith), spelled-numbers w n (drop w l) (bytes_drop w l b) (simp length-drop (omega arith)), e) (sym (take-add w (w * n) l))
