-- The messages of a channel as a whole, in its row and in the table: a row is laid slot by slot, from the first.
use mathlib.Core.Path.{◌≡◌, refl, sym, ap, ◌∙◌}
use mathlib.Core.List.{List, [], ◌∷◌, ◌++◌}
use Prim.Native.Nat.{ℕ, zero, suc, ◌+◌, ◌≤◌, ◌<◌}
use native.Mathlib.Nat.{not-suc-le-zero}
use native.Mathlib.Decide.{dec_lt}
use native.Mathlib.Numerals.{add-one}
use native.Mathlib.Omega.{arith}
use lib.ListN.{length, get_or, set, take, drop, length-drop, get_or-eq_default}
use lib.Seq.{length-take-le, take_all, get_or-take, get_or-set_same, set-set, set-get_or, set_out}
use borrow.Author.Tests.{lt-ltb, le-ltb}
use Rattle.rules.specs.Sizes.{channel_count, most_messages}
use Rattle.rules.specs.Table.{Table, no_channel, channel_of, row_of, with_channel, with_held, with_row}
use Rattle.rules.specs.Messages.{present, laid, greater, holding}
use Rattle.rules.specs.Sound.{Shaped}

-- ---- a row

next_at : (m : List ℕ) (i : ℕ) → get_or (drop 1 m) i 0 ≡ get_or m (suc i) 0
next_at [] i = refl
next_at (x ∷ m) i = refl

-- One slot more, if there is one.
laid_more : (i : ℕ) (m row : List ℕ) → set (laid i m row) i (get_or m i 0) ≡ laid (suc i) m row
unfolding laid
laid_more zero m [] = refl
laid_more zero m (x ∷ row) = refl
laid_more (suc i) m [] = refl
laid_more (suc i) m (x ∷ row) = ap (λ (l : List ℕ). get_or m 0 0 ∷ l) (rw (← next_at m i) (laid_more i (drop 1 m) row))

-- The slots behind stay.
laid_kept : (i j : ℕ) (m row : List ℕ) → i ≤ j → get_or (laid i m row) j 0 ≡ get_or row j 0
unfolding laid
laid_kept zero j m row h = refl
laid_kept (suc i) j m [] h = refl
laid_kept (suc i) zero m (x ∷ row) h = absurd (not-suc-le-zero h)
laid_kept (suc i) (suc j) m (x ∷ row) h = laid_kept i j (drop 1 m) row (omega arith)

-- No slot is left.
laid_all : (a b : ℕ) (m row : List ℕ) → length row ≤ a → length row ≤ b → laid a m row ≡ laid b m row
unfolding laid
laid_all zero zero m row h k = refl
laid_all zero (suc b) m [] h k = refl
laid_all zero (suc b) m (x ∷ row) h k = absurd (not-suc-le-zero h)
laid_all (suc a) zero m [] h k = refl
laid_all (suc a) zero m (x ∷ row) h k = absurd (not-suc-le-zero k)
laid_all (suc a) (suc b) m [] h k = refl
laid_all (suc a) (suc b) m (x ∷ row) h k = ap (λ (l : List ℕ). get_or m 0 0 ∷ l) (laid_all a b (drop 1 m) row (omega arith) (omega arith))

-- What stands there already changes nothing.
laid_same : (n : ℕ) (row r : List ℕ) → laid n (take n row ++ r) row ≡ row
unfolding laid
laid_same zero row r = refl
laid_same (suc n) [] r = refl
laid_same (suc n) (x ∷ row) r = ap (λ (l : List ℕ). x ∷ l) (laid_same n row r)

-- The front of a list goes by its length.
take_front : (n : ℕ) (l : List ℕ) → take n l ≡ take (length (take n l)) l
take_front zero l = refl
take_front (suc n) [] = refl
take_front (suc n) (x ∷ l) = ap (λ (r : List ℕ). x ∷ r) (take_front n l)

-- Behind the last there is none.
pub none_next : (l : List ℕ) (i : ℕ) → length l ≡ i + 1 → 0 ≡ get_or (drop 1 l) i 0
none_next l i e = sym (get_or-eq_default (drop 1 l) 0 {n = i} (omega (arith, length-drop 1 l)))

-- ---- the greater of two numbers

greater_more : (m n : ℕ) → m < n → greater m n ≡ n
greater_more m n h = rw (lt-ltb m n h)

greater_less : (m n : ℕ) → n ≤ m → greater m n ≡ m
greater_less m n h = rw (le-ltb m n h)

greater-least : (m n : ℕ) → m ≤ greater m n
greater-least m n = go (dec_lt m n)
  where
    go : Dec (m < n) → m ≤ greater m n
    go (yes h) = rw (greater_more m n h) (omega arith)
    go (no h) = rw (greater_less m n (omega arith)) (omega arith)

-- ---- the messages of one channel

-- A slot that is v already.
pub slot_same : (t : Table) (c j v : ℕ) → v ≡ get_or (row_of t c) j 0 → t ≡ with_row c (set (row_of t c) j v) t
slot_same t c j v e = rw (e, set-get_or (row_of t c) j 0, set-get_or t.messages c [])

module _ (t : Table) (shaped : Shaped t) (c : ℕ) (p : c < channel_count) where
  abbrev row : List ℕ
  row = row_of t c

  abbrev held : ℕ
  held = (channel_of t c).held

  abbrev n : ℕ
  n = length (present t c)

  long : length row ≡ most_messages
  long = shaped.rows c p

  -- How many there are.
  pub count_few : held < most_messages → held ≡ n
  unfolding present
  count_few h = sym (length-take-le held row (omega (arith, long)))

  pub count-many : most_messages ≤ held → most_messages ≡ n
  unfolding present
  count-many h = sym (ap length (take_all held row (omega (arith, long))) ∙ long)

  -- Where they stand.
  front : present t c ≡ take n row
  unfolding present
  front = take_front held row

  present_at : (j : ℕ) → j < n → get_or (present t c) j 0 ≡ get_or row j 0
  present_at j h = ap (λ (l : List ℕ). get_or l j 0) front ∙ get_or-take n row j 0 h

  pub first_none : held ≡ 0 → 0 ≡ get_or (present t c) 0 0
  unfolding present
  first_none e = rw e

  pub first_there : (held ≡ 0 → ⊥) → get_or row 0 0 ≡ get_or (present t c) 0 0
  first_there d = go (dec_lt held most_messages)
    where
      go : Dec (held < most_messages) → get_or row 0 0 ≡ get_or (present t c) 0 0
      go (yes h) = sym (present_at 0 (omega (arith, count_few h)))
      go (no h) = sym (present_at 0 (omega (arith, count-many (omega arith))))

  -- A slot that the row has not.
  pub no_slot : (j v : ℕ) → most_messages ≤ j → t ≡ with_row c (set row j v) t
  no_slot j v h = rw (set_out row j v (omega (arith, long)), set-get_or t.messages c [])

  -- What is held beyond the slots lays none.
  laid-held : (l : List ℕ) → laid (greater n (length l)) l row ≡ laid (greater held (length l)) l row
  laid-held l = go (dec_lt held most_messages)
    where
      go : Dec (held < most_messages) → laid (greater n (length l)) l row ≡ laid (greater held (length l)) l row
      go (yes h) = rw (← count_few h)
      go (no h) =
          let e : most_messages ≡ n = count-many (omega arith) in
          laid_all (greater n (length l)) (greater held (length l)) l row (omega (arith, long, greater-least n (length l))) (omega (arith, long, greater-least held (length l)))

-- ---- a row that is laid slot by slot

-- The table u is t, but for the row of channel c: its first i slots are those of m.
pub record Laying (c i : ℕ) (m : List ℕ) (t u : Table) : Type 0 where
  pub channel : c < channel_count
  pub shaped : Shaped t
  pub row : u ≡ with_row c (laid i m (row_of t c)) t

module _ {c : ℕ} {t : Table} (p : c < channel_count) (s : Shaped t) where
  pub laying_none : (m : List ℕ) → Laying c 0 m t t
  unfolding laid
  laying_none m = record { channel = p; shaped = s; row = rw (set-get_or t.messages c []) }

  -- What stands there already.
  pub laying_present : (n : ℕ) → n ≡ length (present t c) → (r : List ℕ) → Laying c n (present t c ++ r) t t
  laying_present n e r =
      let q : laid n (present t c ++ r) (row_of t c) ≡ row_of t c = ap (λ (l : List ℕ). laid n (l ++ r) (row_of t c)) (rw (← e) at (front t s c p)) ∙ laid_same n (row_of t c) r in
      record { channel = p; shaped = s; row = rw (q, set-get_or t.messages c []) }

module _ {c i : ℕ} {m : List ℕ} {t u : Table} (x : Laying c i m t u) where
  abbrev many : ℕ
  many = length (present t c)

  row_now : row_of u c ≡ laid i m (row_of t c)
  row_now = ap (λ (y : Table). row_of y c) x.row ∙ get_or-set_same t.messages c (laid i m (row_of t c)) [] (omega (arith, x.shaped.messages, x.channel))

  -- One slot more.
  pub laying_more : {v : ℕ} {w : Table} → v ≡ get_or m i 0 → w ≡ with_row c (set (row_of u c) i v) u → Laying c (i + 1) m t w
  laying_more {v} a b =
      record {
        channel = x.channel;
        shaped = x.shaped;
        row =
            b
            ∙ ap (λ (l : List ℕ). with_row c (set l i v) u) row_now
            ∙ ap (λ (y : Table). with_row c (set (laid i m (row_of t c)) i v) y) x.row
            ∙ rw (set-set, a, laid_more i m (row_of t c), add-one i);
      }

  -- A slot that is not laid yet.
  unlaid : (j : ℕ) → i ≤ j → j < many → get_or (row_of u c) j 0 ≡ get_or (present t c) j 0
  unlaid j h q = ap (λ (l : List ℕ). get_or l j 0) row_now ∙ laid_kept i j m (row_of t c) h ∙ sym (present_at t x.shaped c x.channel j q)

  -- The last step, how many are held: one more, or not more.
  module _ {h : ℕ} {w : Table} (d : w ≡ with_channel c (with_held h (channel_of u c)) u) where
    all_held : i ≡ greater many (length m) → h ≡ length m → w ≡ holding c m t
    unfolding holding
    all_held a b = d ∙ ap (λ (y : Table). with_channel c (with_held h (channel_of y c)) y) x.row ∙ rw (b, a, laid-held t x.shaped c x.channel m)

    pub one_more : i ≡ many + 1 → length m ≡ many + 1 → h ≡ many + 1 → w ≡ holding c m t
    one_more a b e = all_held (a ∙ sym b ∙ sym (greater_more many (length m) (omega arith))) (e ∙ sym b)

    pub no_more : i ≡ many → length m ≤ many → h ≡ length m → w ≡ holding c m t
    no_more a b e = all_held (a ∙ sym (greater_less many (length m) b)) e

-- ---- what each slot becomes

module _ {c i y : ℕ} {t u : Table} where
  -- The carry, where the message v comes first.
  pub carry_next : {v : ℕ} → Laying c i (v ∷ present t c) t u → i < length (present t c) → y ≡ get_or (row_of u c) i 0 → y ≡ get_or (v ∷ present t c) (i + 1) 0
  carry_next x h e = rw (add-one i) (e ∙ unlaid x i (omega arith) h)

  -- The slot behind, where the first goes.
  pub slot_next : Laying c i (drop 1 (present t c)) t u → i + 1 < length (present t c) → y ≡ get_or (row_of u c) (i + 1) 0 → y ≡ get_or (drop 1 (present t c)) i 0
  slot_next x h e = e ∙ unlaid x (i + 1) (omega arith) h ∙ ap (λ (j : ℕ). get_or (present t c) j 0) (add-one i) ∙ sym (next_at (present t c) i)

-- Nothing to take.
pub none_taken : {c : ℕ} {t : Table} → c < channel_count → Shaped t → 0 ≡ length (present t c) → t ≡ holding c (drop 1 (present t c)) t
none_taken {c} {t} p s e =
    let l : List ℕ = present t c in
    no_more (laying_none p s (drop 1 l)) {h = (channel_of t c).held} (rw (set-get_or t.channels c no_channel)) e (omega (arith, length-drop 1 l))
    (omega (arith, length-drop 1 l, none_held (dec_lt (channel_of t c).held most_messages)))
  where
    none_held : Dec ((channel_of t c).held < most_messages) → (channel_of t c).held ≡ 0
    none_held (yes h) = omega (arith, count_few t s c p h)
    none_held (no h) = omega (arith, count-many t s c p (omega arith))
