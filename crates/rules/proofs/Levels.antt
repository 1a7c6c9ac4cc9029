-- Laws of the word of ready levels: what its bits are, that they say all of it, and which level is the first.
use Rattle.std.specs.Prelude.{◌≡◌, refl, ◌⊎◌, ◌↔◌, Bool, true, false, cond, not, ◌&&◌, ◌||◌, ℕ, zero, suc, ◌+◌, ◌-◌, ◌/◌, ◌%◌, ◌^◌, ◌≤◌, ◌<◌, eqb}
use Rattle.std.proofs.Common.{sym, ap, ◌∙◌, subst, inl, inr, ⊎_elim, not-suc-le-zero, le_of_suc-le-suc, lt_of_le_of_lt, lt_of_lt_of_le, eq-or-lt_of_le, eq-zero-or-pos, arith, lit<, pow_pos, pow_mono, pow-add, eqb-true, eq-eqb}
use Rattle.std.proofs.lemmas.Bool.{false≢true, eqb-false}
use Rattle.std.proofs.Math.Nat.{zero-div, div-eq_of_lt}
use Rattle.std.proofs.Math.Arith.{lt-one}
use Rattle.std.specs.Int.Bits.{bit_and, bit_or, bit_xor, and_zero_r, or_zero_r, xor_zero_r}
use Rattle.std.proofs.lemmas.Nat.{and_le_l, or_lt, xor_lt, leading_top, leading_length, shl-shr, shr_le}
use Rattle.std.specs.Int.Count.{count_leading_zeros, leading_of_zero}
use Rattle.std.proofs.Math.Pow.{pow-lt}
use Rattle.rules.specs.Sizes.{level_count, words_round, task_count}
use Rattle.rules.specs.Table.{Table, task_of, is_able}
use Rattle.rules.specs.Ready.{bit_of, is_set, with_level, without_level, first_level, levels_below}
use Rattle.rules.specs.Sound.{Each, SoundReady, is_sound_ready}
use Rattle.rules.specs.Afresh.{lt_or_le}
use Rattle.rules.specs.Decides.{Decides, same_test, itself}
use Rattle.rules.specs.Digits.{digit, digit_lt, digit_and, digit_or, digit_xor, digit-above, digit_top, digit-itself, digit-below, digits_same}

-- ---- the bit of a level

-- The bits of the levels are the powers of two, from the top one down.
bit_power : (l p : ℕ) → p + l ≡ 63 → bit_of l ≡ 2 ^ p
unfolding bit_of
bit_power l p e = ap (λ (n : ℕ). 2 ^ n / 2 ^ l) (sym e) ∙ ap (λ (x : ℕ). x / 2 ^ l) (pow-add 2 p l) ∙ shl-shr (2 ^ p) l

-- 64 and more have none.
bit_none : (l : ℕ) → level_count ≤ l → bit_of l ≡ 0
unfolding bit_of
bit_none l h = div-eq_of_lt (pow-lt {i = 63} h)

-- Every bit fits in the word.
bit_word : (l : ℕ) → bit_of l < words_round
unfolding bit_of
bit_word l = lt_of_le_of_lt (shr_le (2 ^ 63) l) (lit< tt)

-- The digit of a level is 1 in its own bit alone.
bit_digit : (m l : ℕ) → m < level_count → digit (63 - m) (bit_of l) ≡ cond (eqb m l) 1 0
bit_digit m l h = go (eqb m l) refl
  where
    other : (m ≡ l → ⊥) → (l < level_count) ⊎ (level_count ≤ l) → (m < l) ⊎ (l ≤ m) → digit (63 - m) (bit_of l) ≡ 0
    other ne (inl k) (inl s) = ap (digit (63 - m)) (bit_power l (63 - l) (omega arith)) ∙ digit-above (63 - m) (2 ^ (63 - l)) (pow-lt (omega arith))
    other ne (inl k) (inr s) = ap (digit (63 - m)) (bit_power l (suc (m - l - 1) + (63 - m)) (omega arith)) ∙ digit-below (63 - m) (m - l - 1)
    other ne (inr k) s = ap (digit (63 - m)) (bit_none l k) ∙ digit-above (63 - m) 0 (pow_pos (63 - m))

    go : (b : Bool) → eqb m l ≡ b → digit (63 - m) (bit_of l) ≡ cond b 1 0
    go true e = ap (digit (63 - m)) (bit_power l (63 - m) (omega (arith, eqb-true m l e))) ∙ digit-itself (63 - m)
    go false e = other (eqb-false m l e) (lt_or_le l level_count) (lt_or_le m l)

-- A level's bit is set where its digit is 1.
set-digit : (m w : ℕ) → m < level_count → is_set m w ≡ eqb (digit (63 - m) w) 1
unfolding is_set
set-digit m w h = ap (λ (x : ℕ). eqb (w / x % 2) 1) (bit_power m (63 - m) (omega arith))

-- ---- the bits of a word

-- Setting a level's bit sets it and leaves the others. (A level without a bit sets none.)
pub set-with : (m l w : ℕ) → m < level_count → is_set m (with_level l w) ≡ (eqb m l || is_set m w)
unfolding with_level
set-with m l w h =
    set-digit m (bit_or w (bit_of l)) h
    ∙ ap (λ (x : ℕ). eqb x 1) (digit_or (63 - m) w (bit_of l) ∙ ap (bit_or (digit (63 - m) w)) (bit_digit m l h))
    ∙ go (eqb m l) (digit (63 - m) w) (digit_lt (63 - m) w)
    ∙ ap (λ (b : Bool). eqb m l || b) (sym (set-digit m w h))
  where
    go : (b : Bool) (d : ℕ) → d < 2 → eqb (bit_or d (cond b 1 0)) 1 ≡ (b || eqb d 1)
    go true zero k = refl
    go true (suc zero) k = refl
    go true (suc (suc d)) k = absurd (omega arith)
    go false d k = ap (λ (x : ℕ). eqb x 1) (or_zero_r d)

-- Clearing a level's bit clears it and leaves the others.
pub set-without : (m l w : ℕ) → m < level_count → is_set m (without_level l w) ≡ (not (eqb m l) && is_set m w)
unfolding without_level
set-without m l w h =
    set-digit m (bit_xor w (bit_and w (bit_of l))) h
    ∙ ap (λ (x : ℕ). eqb x 1)
    (digit_xor (63 - m) w (bit_and w (bit_of l)) ∙ ap (bit_xor d) (digit_and (63 - m) w (bit_of l) ∙ ap (bit_and d) (bit_digit m l h)))
    ∙ go (eqb m l) d (digit_lt (63 - m) w)
    ∙ ap (λ (b : Bool). not (eqb m l) && b) (sym (set-digit m w h))
  where
    d : ℕ
    d = digit (63 - m) w

    go : (b : Bool) (d : ℕ) → d < 2 → eqb (bit_xor d (bit_and d (cond b 1 0))) 1 ≡ (not b && eqb d 1)
    go true zero k = refl
    go true (suc zero) k = refl
    go true (suc (suc d)) k = absurd (omega arith)
    go false d k = ap (λ (x : ℕ). eqb x 1) (ap (bit_xor d) (and_zero_r d) ∙ xor_zero_r d)

-- In 0 no bit is set.
pub set_none : (m : ℕ) → is_set m 0 ≡ false
unfolding is_set
set_none m = ap (λ (x : ℕ). eqb (x % 2) 1) (zero-div (bit_of m))

-- A word stays a word when a bit is set,
pub with_word : (l w : ℕ) → w < words_round → with_level l w < words_round
unfolding with_level
with_word l w h = or_lt 64 w (bit_of l) h (bit_word l)

-- and when one is cleared.
pub without_word : (l w : ℕ) → w < words_round → without_level l w < words_round
unfolding without_level
without_word l w h = xor_lt 64 w (bit_and w (bit_of l)) h (lt_of_le_of_lt (and_le_l w (bit_of l)) h)

-- The bits say all of it.
pub words_same : (w v : ℕ) → w < words_round → v < words_round → Each level_count (λ l. is_set l w ≡ is_set l v) → w ≡ v
words_same w v h k same = digits_same 64 w v h k (λ p l. one (digit p w) (digit p v) (digit_lt p w) (digit_lt p v) (here p l))
  where
    one : (d e : ℕ) → d < 2 → e < 2 → eqb d 1 ≡ eqb e 1 → d ≡ e
    one zero zero h k q = refl
    one zero (suc zero) h k q = absurd (false≢true q)
    one zero (suc (suc e)) h k q = absurd (omega arith)
    one (suc zero) zero h k q = absurd (false≢true (sym q))
    one (suc zero) (suc zero) h k q = refl
    one (suc zero) (suc (suc e)) h k q = absurd (omega arith)
    one (suc (suc d)) e h k q = absurd (omega arith)

    here : (p : ℕ) → p < 64 → eqb (digit p w) 1 ≡ eqb (digit p v) 1
    here p l =
        subst (λ (x : ℕ). eqb (digit x w) 1 ≡ eqb (digit x v) 1) (back p l)
        (sym (set-digit (63 - p) w (omega arith)) ∙ same (63 - p) (omega arith) ∙ set-digit (63 - p) v (omega arith))
      where
        back : (p : ℕ) → p < 64 → 63 - (63 - p) ≡ p
        back p l = omega arith

-- ---- the first level

-- The first level's bit is set.
pub first_set : (w : ℕ) → w < words_round → first_level w < level_count → is_set (first_level w) w ≡ true
unfolding first_level
first_set w h k = go (eq-zero-or-pos w)
  where
    go : (w ≡ 0) ⊎ (0 < w) → is_set (count_leading_zeros 64 w) w ≡ true
    go (inl e) = absurd (omega (arith, ap (count_leading_zeros 64) e, leading_of_zero 64))
    go (inr p) =
        let (j, e, least, most) = leading_top 64 w p h in
        let here : 63 - count_leading_zeros 64 w ≡ j = omega (arith, e) in
        set-digit (count_leading_zeros 64 w) w k ∙ ap (λ (x : ℕ). eqb (digit x w) 1) here ∙ ap (λ (x : ℕ). eqb x 1) (digit_top j w least most)

-- No level before it has its bit set.
pub first_least : (w m : ℕ) → w < words_round → m < level_count → is_set m w ≡ true → first_level w ≤ m
unfolding first_level
first_least w m h k s = go (lt_or_le m (count_leading_zeros 64 w))
  where
    go : (m < count_leading_zeros 64 w) ⊎ (count_leading_zeros 64 w ≤ m) → count_leading_zeros 64 w ≤ m
    go (inl l) =
        let (n, e, most, least) = leading_length 64 w h in
        let far : n ≤ 63 - m = omega (arith, e) in
        absurd (false≢true (sym (set-digit m w k ∙ ap (λ (x : ℕ). eqb x 1) (digit-above (63 - m) w (lt_of_lt_of_le most (pow_mono far)))) ∙ s))
    go (inr l) = l

-- There is no first level exactly where no bit is set.
pub none_set : (w : ℕ) → w < words_round → (first_level w ≡ level_count) ↔ (w ≡ 0)
unfolding first_level
none_set w h = (none, λ e. ap (count_leading_zeros 64) e ∙ leading_of_zero 64)
  where
    none : count_leading_zeros 64 w ≡ 64 → w ≡ 0
    none q =
        let (n, e, most, least) = leading_length 64 w h in
        let no : n ≡ 0 = omega (arith, e) in
        lt-one (subst (λ (x : ℕ). w < 2 ^ x) no most)

-- ---- the standing rule

-- The levels of the tasks make a word.
levels_word : (n : ℕ) (t : Table) → levels_below n t < words_round
unfolding levels_below
levels_word zero t = lit< tt
levels_word (suc n) t = go (levels_word n t) (is_able (task_of t n))
  where
    go : levels_below n t < words_round → (b : Bool) → cond b (with_level (task_of t n).work (levels_below n t)) (levels_below n t) < words_round
    go h true = with_word (task_of t n).work (levels_below n t) h
    go h false = h

-- One of the first n tasks is able and has level m.
abbrev Has : (n m : ℕ) → Table → Type 0
Has n m t = (i : ℕ) × (i < n) × (is_able (task_of t i) ≡ true) × ((task_of t i).work ≡ m)

-- Where a level's bit is set, one of the tasks has it.
levels_sound : (n m : ℕ) (t : Table) → m < level_count → is_set m (levels_below n t) ≡ true → Has n m t
unfolding levels_below
levels_sound zero m t h s = absurd (false≢true (sym (set_none m) ∙ s))
levels_sound (suc n) m t h s = go (levels_sound n m t h) (is_able (task_of t n)) refl s
  where
    later : Has n m t → Has (suc n) m t
    later (i, l, a, e) = (i, omega arith, a, e)

    either : (b : Bool) → eqb m (task_of t n).work ≡ b → is_able (task_of t n) ≡ true
        → (is_set m (levels_below n t) ≡ true → Has n m t) → (b || is_set m (levels_below n t)) ≡ true → Has (suc n) m t
    either true e a rest s = (n, omega arith, a, sym (eqb-true m (task_of t n).work e))
    either false e a rest s = later (rest s)

    go : (is_set m (levels_below n t) ≡ true → Has n m t) → (b : Bool) → is_able (task_of t n) ≡ b
        → is_set m (cond b (with_level (task_of t n).work (levels_below n t)) (levels_below n t)) ≡ true → Has (suc n) m t
    go rest true a s = either (eqb m (task_of t n).work) refl a rest (sym (set-with m (task_of t n).work (levels_below n t) h) ∙ s)
    go rest false a s = later (rest s)

-- Where one of the tasks has a level, its bit is set.
levels_complete : (n m : ℕ) (t : Table) → m < level_count → Has n m t → is_set m (levels_below n t) ≡ true
unfolding levels_below
levels_complete zero m t h (i, l, a, e) = absurd (not-suc-le-zero l)
levels_complete (suc n) m t h (i, l, a, e) = go (is_able (task_of t n)) refl (⊎_elim (λ q. inl (at q)) (λ k. inr (levels_complete n m t h (i, k, a, e))) (eq-or-lt_of_le (le_of_suc-le-suc l)))
  where
    at : i ≡ n → (is_able (task_of t n) ≡ true) × ((task_of t n).work ≡ m)
    at q = (ap (λ (k : ℕ). is_able (task_of t k)) (sym q) ∙ a, ap (λ (k : ℕ). (task_of t k).work) (sym q) ∙ e)

    or_else : (b : Bool) {c : Bool} → c ≡ true → (b || c) ≡ true
    or_else true q = refl
    or_else false q = q

    go : (b : Bool) → is_able (task_of t n) ≡ b → ((is_able (task_of t n) ≡ true) × ((task_of t n).work ≡ m)) ⊎ (is_set m (levels_below n t) ≡ true)
        → is_set m (cond b (with_level (task_of t n).work (levels_below n t)) (levels_below n t)) ≡ true
    go true q (inl (a, e)) = set-with m (task_of t n).work (levels_below n t) h ∙ ap (λ (b : Bool). b || is_set m (levels_below n t)) (eq-eqb m (task_of t n).work (sym e))
    go true q (inr s) = set-with m (task_of t n).work (levels_below n t) h ∙ or_else (eqb m (task_of t n).work) s
    go false q (inl (a, e)) = absurd (false≢true (sym q ∙ a))
    go false q (inr s) = s

-- The word is the one made of the tasks' levels exactly where each bit is set as the rule says.
pub ready : (t : Table) → Decides (is_sound_ready t) (SoundReady t)
unfolding is_sound_ready
ready t =
    record {
      holds = λ e. rules (eqb-true t.ready (levels_below task_count t) e);
      passes = λ r. eq-eqb t.ready (levels_below task_count t) (equation r);
    }
  where
    rules : t.ready ≡ levels_below task_count t → SoundReady t
    rules q =
        record {
          word = subst (λ (x : ℕ). x < words_round) (sym q) (levels_word task_count t);
          levels = λ l k. (
            λ s. let (i, r, a, e) = levels_sound task_count l t k (ap (is_set l) (sym q) ∙ s) in record { task = i; range = r; able = a; level = e },
            λ a. ap (is_set l) q ∙ levels_complete task_count l t k (a.task, a.range, a.able, a.level),
          );
        }

    equation : SoundReady t → t.ready ≡ levels_below task_count t
    equation r =
        words_same t.ready (levels_below task_count t) r.word (levels_word task_count t) λ l k.
        same_test
        (record {
          holds = λ s. let a = (r.levels l k).0 s in levels_complete task_count l t k (a.task, a.range, a.able, a.level);
          passes = λ s. let (i, u, a, e) = levels_sound task_count l t k s in (r.levels l k).1 (record { task = i; range = u; able = a; level = e });
        })
        itself
