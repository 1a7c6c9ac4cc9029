-- An image and the numbers of its columns determine each other.
use Rattle.std.specs.Prelude.{◌≡◌, refl, List, [], ◌∷◌, ◌++◌, ℕ, zero, suc, ◌*◌, ◌≤◌, ◌<◌, ◌/◌, ◌^◌, length, take, drop}
use Rattle.std.proofs.Common.{sym, ap, ap₂, ◌∙◌, append_assoc, append-nil, pow-suc, mul-zero, mul-suc, arith, length-append, length-drop, take-add, take_all, drop_at}
use Rattle.columns.specs.Columns.{word, bytes, numbers, spelled, Column, column_of, offset, size, total, columns, entry, image, Bytes, Below, Fits, none, more}
use Rattle.columns.specs.Laws.{columns_at}
use Rattle.columns.specs.Words.{bytes-long, numbers-long, numbers-spelled, bytes_drop, spelled-numbers}

-- ---- from bytes to numbers and back

image_front : (cs : List Column) (l : List ℕ) → Bytes l → total cs ≤ length l → image cs (columns cs l) ≡ take (total cs) l
unfolding image columns
image_front [] l b h = refl
image_front (c ∷ cs) l b h =
    rw (spelled-numbers c.width c.count l b (omega arith), image_front cs (drop (size c) l) (bytes_drop (size c) l b) (simp length-drop (omega arith)))
    (sym (take-add (size c) (total cs) l))

pub image-columns : (cs : List Column) (l : List ℕ) → Bytes l → length l ≡ total cs → image cs (columns cs l) ≡ l
image-columns cs l b h = image_front cs l b (omega arith) ∙ take_all (total cs) l (omega arith)

-- Images with the same numbers are the same.
pub lossless : (cs : List Column) (l m : List ℕ) → Bytes l → Bytes m → length l ≡ total cs → length m ≡ total cs → columns cs l ≡ columns cs m → l ≡ m
lossless cs l m b d h k e = sym (image-columns cs l b h) ∙ ap (image cs) e ∙ image-columns cs m d k

-- ---- from numbers to bytes and back

spelled-long : (w : ℕ) (xs : List ℕ) → length (spelled w xs) ≡ w * length xs
unfolding spelled
spelled-long w [] = sym (mul-zero w)
spelled-long w (x ∷ xs) = simp length-append (omega (arith, bytes-long w x, spelled-long w xs, mul-suc w (length xs)))

columns_front : {cs : List Column} {t : List (List ℕ)} (r : List ℕ) → Fits cs t → columns cs (image cs t ++ r) ≡ t
unfolding columns image
columns_front r none = refl
columns_front r (more {c} {cs} {x} {t} n b f) =
    let i : List ℕ = image cs t ++ r in
    let e : length (spelled c.width x) ≡ size c = spelled-long c.width x ∙ ap (λ (z : ℕ). c.width * z) n in
    rw (append_assoc (spelled c.width x) (image cs t) r, ← n)
    (ap₂ (λ (y : List ℕ) (u : List (List ℕ)). y ∷ u)
    (numbers-spelled c.width x i b)
    (rw n (ap (columns cs) (drop_at (spelled c.width x) i (size c) e) ∙ columns_front r f)))

pub columns-image : {cs : List Column} {t : List (List ℕ)} → Fits cs t → columns cs (image cs t) ≡ t
columns-image {cs} {t} f = ap (columns cs) (sym (append-nil (image cs t))) ∙ columns_front [] f

pub image-long : {cs : List Column} {t : List (List ℕ)} → Fits cs t → length (image cs t) ≡ total cs
unfolding image
image-long none = refl
image-long (more {c} {cs} {x} {t} n b f) = simp length-append (omega (arith, spelled-long c.width x, ap (λ (z : ℕ). c.width * z) n, image-long f))

bytes_append : (l m : List ℕ) → Bytes l → Bytes m → Bytes (l ++ m)
bytes_append [] m p q j = q j
bytes_append (x ∷ l) m p q zero = p 0
bytes_append (x ∷ l) m p q (suc j) = bytes_append l m (λ i. p (suc i)) q j

bytes_small : (w n : ℕ) → Bytes (bytes w n)
unfolding bytes
bytes_small zero n j = omega arith
bytes_small (suc w) n zero = omega arith
bytes_small (suc w) n (suc j) = bytes_small w (n / 256) j

spelled-small : (w : ℕ) (xs : List ℕ) → Bytes (spelled w xs)
unfolding spelled
spelled-small w [] = λ j. omega arith
spelled-small w (x ∷ xs) = bytes_append (bytes w x) (spelled w xs) (bytes_small w x) (spelled-small w xs)

pub image-bytes : (cs : List Column) (t : List (List ℕ)) → Bytes (image cs t)
unfolding image
image-bytes [] t = λ j. omega arith
image-bytes (c ∷ cs) [] = λ j. omega arith
image-bytes (c ∷ cs) (x ∷ t) = bytes_append (spelled c.width x) (image cs t) (spelled-small c.width x) (image-bytes cs t)

-- ---- the numbers of an image fit

word_small : (w : ℕ) (l : List ℕ) → Bytes l → word w l < 256 ^ w
unfolding word
word_small zero l b = omega arith
word_small (suc w) l b = rw (pow-suc 256 w) (omega (arith, b 0, word_small w (drop 1 l) (bytes_drop 1 l b)))

pub power : (w : ℕ) → 0 < 256 ^ w
power w = omega (arith, word_small w [] (λ j. omega arith))

numbers-small : (w n : ℕ) (l : List ℕ) → Bytes l → Below w (numbers w n l)
unfolding numbers
numbers-small w zero l b i = omega (arith, word_small w l b)
numbers-small w (suc n) l b zero = word_small w l b
numbers-small w (suc n) l b (suc i) = numbers-small w n (drop w l) (bytes_drop w l b) i

pub columns-fit : (cs : List Column) (l : List ℕ) → Bytes l → Fits cs (columns cs l)
unfolding columns
columns-fit [] l b = none
columns-fit (c ∷ cs) l b = more (numbers-long c.width c.count l) (numbers-small c.width c.count l b) (columns-fit cs (drop (size c) l) (bytes_drop (size c) l b))

-- Each number fits its column.
pub entry-small : (cs : List Column) (l : List ℕ) → Bytes l → (k i : ℕ) → entry (columns cs l) k i < 256 ^ (column_of cs k).width
unfolding entry
entry-small cs l b k i = rw (columns_at cs k l) (numbers-small (column_of cs k).width (column_of cs k).count (drop (offset cs k) l) (bytes_drop (offset cs k) l b) i)
