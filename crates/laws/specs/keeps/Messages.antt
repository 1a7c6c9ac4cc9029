-- The messages of a channel, as they stand in its row: what `laid` leaves in the slots, and what `holding` makes of a table.
use Rattle.std.specs.Prelude.{◌≡◌, refl, ◌≢◌, ℕ, zero, suc, ◌+◌, ◌≤◌, ◌<◌, eqb, length, get_or, take, drop}
use Rattle.std.proofs.Common.{ap, ◌∙◌, ⊎_elim, not-suc-le-zero, le_of_suc-le-suc, arith, length-append, get_or-take, get_or-drop}
use mathlib.Core.List.{List, [], ◌∷◌, ◌++◌}
use Rattle.std.proofs.Math.ListN.{get_or-eq_default}
use Rattle.std.proofs.Math.Seq.{get_or-set_same, get_or-set_other, length-take-le}
use Rattle.rules.specs.Afresh.{lt_or_le}
use Rattle.rules.specs.Decides.{at_most}
use Rattle.rules.specs.Sizes.{channel_count, most_messages, greatest_message}
use Rattle.rules.specs.Table.{Table, channel_of, row_of, no_channel, with_held, with_channel}
use Rattle.rules.specs.Messages.{present, laid, greater, holding}
use Rattle.rules.specs.Channel.{with_posted}
use Rattle.rules.specs.declared.Channel.{Channel}
use Rattle.rules.specs.Sound.{Each, Shaped, SoundChannel}
use Rattle.laws.specs.queues.Put.{pick, whichever}
use Rattle.laws.specs.queues.Fields.{rest}
use Rattle.laws.specs.queues.Shapes.{channel-shaped, row-shaped}

-- ---- a row with messages laid in it

pub laid-length : (n : ℕ) (l row : List ℕ) → length (laid n l row) ≡ length row
unfolding laid
laid-length zero l row = refl
laid-length (suc n) l [] = refl
laid-length (suc n) l (x ∷ row) = ap suc (laid-length n (drop 1 l) row)

-- The first n slots are those of l, 0 past its end,
pub laid-below : (n : ℕ) (l row : List ℕ) (j : ℕ) → j < n → j < length row → get_or (laid n l row) j 0 ≡ get_or l j 0
unfolding laid
laid-below zero l row j k m = absurd (not-suc-le-zero k)
laid-below (suc n) l [] j k m = absurd (not-suc-le-zero m)
laid-below (suc n) l (x ∷ row) zero k m = refl
laid-below (suc n) l (x ∷ row) (suc j) k m = laid-below n (drop 1 l) row j (le_of_suc-le-suc k) (le_of_suc-le-suc m) ∙ get_d_behind l j
  where
    get_d_behind : (l : List ℕ) (j : ℕ) → get_or (drop 1 l) j 0 ≡ get_or l (suc j) 0
    get_d_behind [] j = refl
    get_d_behind (y ∷ l) j = refl

-- and the others stay.
pub laid-behind : (n : ℕ) (l row : List ℕ) (j : ℕ) → n ≤ j → get_or (laid n l row) j 0 ≡ get_or row j 0
unfolding laid
laid-behind zero l row j k = refl
laid-behind (suc n) l [] j k = refl
laid-behind (suc n) l (x ∷ row) zero k = absurd (not-suc-le-zero k)
laid-behind (suc n) l (x ∷ row) (suc j) k = laid-behind n (drop 1 l) row j (le_of_suc-le-suc k)

-- As many slots as l is long have l.
pub laid-taken : (n : ℕ) (l row : List ℕ) → length l ≤ n → length l ≤ length row → take (length l) (laid n l row) ≡ l
unfolding laid
laid-taken n [] row k m = refl
laid-taken zero (x ∷ l) row k m = absurd (not-suc-le-zero k)
laid-taken (suc n) (x ∷ l) [] k m = absurd (not-suc-le-zero m)
laid-taken (suc n) (x ∷ l) (y ∷ row) k m = ap (λ r. x ∷ r) (laid-taken n l row (le_of_suc-le-suc k) (le_of_suc-le-suc m))

pub greater_both : (m n : ℕ) → (m ≤ greater m n) × (n ≤ greater m n)
greater_both m n = pick (λ r. (m ≤ r) × (n ≤ r)) at_most (λ (a : m < n). (omega arith, omega arith)) (λ (a : m < n → ⊥). (omega arith, omega arith))

-- ---- messages are numbers of 32 bits

abbrev pub Messages : List ℕ → Type 0
Messages l = (j : ℕ) → get_or l j 0 ≤ greatest_message

pub no_messages : Messages []
no_messages j = omega arith

pub first_message : {v : ℕ} (l : List ℕ) → v ≤ greatest_message → Messages l → Messages (v ∷ l)
first_message l m h zero = m
first_message l m h (suc j) = h j

pub last_message : {v : ℕ} (l : List ℕ) → v ≤ greatest_message → Messages l → Messages (l ++ (v ∷ []))
last_message [] m h j = first_message [] m h j
last_message (x ∷ l) m h zero = h 0
last_message (x ∷ l) m h (suc j) = last_message l m (λ i. h (suc i)) j

pub further-messages : (n : ℕ) (l : List ℕ) → Messages l → Messages (drop n l)
further-messages n l h j = rw (get_or-drop n l j 0) (h (n + j))

-- A post makes one more of them.
module _ (front v : ℕ) (l : List ℕ) where
  pub posted-messages : v ≤ greatest_message → Messages l → Messages (with_posted front v l)
  posted-messages m h = whichever Messages (eqb front 1) (first_message l m h) (last_message l m h)

  pub posted-length : length (with_posted front v l) ≡ length l + 1
  posted-length = whichever (λ (r : List ℕ). length r ≡ length l + 1) (eqb front 1) (omega arith) (length-append l (v ∷ []))

-- ---- the row of a sound channel

module _ {x : Channel} {row : List ℕ} (r : SoundChannel x row) (z : length row ≡ most_messages) where
  pub row-messages : Messages row
  row-messages j = ⊎_elim (r.messages j) (λ k. omega (arith, get_or-eq_default row 0 {n = j} (omega arith))) (lt_or_le j most_messages)

  pub taken-messages : Messages (take x.held row)
  taken-messages j =
      ⊎_elim
      (λ k. rw (get_or-take x.held row j 0 k) (row-messages j))
      (λ k. omega (arith, get_or-eq_default (take x.held row) 0 {n = j} (omega (arith, taken-length))))
      (lt_or_le j x.held)
    where
      taken-length : length (take x.held row) ≡ x.held
      taken-length = length-take-le x.held row (omega (arith, r.held, r.capacity))

  -- Laid anew, it has the messages of l, and no other slot has one.
  module _ (l : List ℕ) (m : Messages l) where
    abbrev anew : List ℕ
    anew = laid (greater x.held (length l)) l row

    either-slot : (P : ℕ → Type 0) (j : ℕ) → j < most_messages → P (get_or l j 0) → (x.held ≤ j → length l ≤ j → P (get_or row j 0)) → P (get_or anew j 0)
    either-slot P j k new old =
        let n = greater x.held (length l) in
        let (a, b) = greater_both x.held (length l) in
        ⊎_elim (λ d. rw (laid-below n l row j d (omega arith)) new) (λ d. rw (laid-behind n l row j d) (old (omega (arith, a)) (omega (arith, b)))) (lt_or_le j n)

    pub anew-messages : Each most_messages (λ j. get_or anew j 0 ≤ greatest_message)
    anew-messages j k = either-slot (λ v. v ≤ greatest_message) j k (m j) (λ a b. r.messages j k)

    pub anew-unused : Each most_messages (λ j. length l ≤ j → get_or anew j 0 ≡ 0)
    anew-unused j k b = either-slot (λ v. v ≡ 0) j k (get_or-eq_default l 0 {n = j} b) (λ a c. r.unused j k a)

    -- A channel in use that has room for them.
    pub anew-sound : x.used ≡ 1 → length l ≤ x.capacity → SoundChannel (with_held (length l) x) anew
    anew-sound u f =
        record { used = r.used; capacity = r.capacity; held = f; free = λ e. absurd (omega arith); room = r.room; messages = anew-messages; unused = anew-unused }

  -- A free channel, where there is none.
  pub anew-free : SoundChannel no_channel (anew [] no_messages)
  anew-free =
      record {
        used = omega arith;
        capacity = omega arith;
        held = omega arith;
        free = λ e. refl;
        room = λ e. absurd (omega arith);
        messages = anew-messages [] no_messages;
        unused = anew-unused [] no_messages;
      }

-- ---- what a channel has

-- Nothing but the channels and their rows bears on it.
pub present_rest : (t u : Table) (c : ℕ) → rest u ≡ rest t → present u c ≡ present t c
unfolding present
present_rest t u c e = ap (λ (x : Table). present x c) e

module _ {t : Table} (s : Shaped t) (c : ℕ) (l : c < channel_count) where
  module _ (r : SoundChannel (channel_of t c) (row_of t c)) where
    pub present-length : length (present t c) ≡ (channel_of t c).held
    unfolding present
    present-length = length-take-le (channel_of t c).held (row_of t c) (omega (arith, r.held, r.capacity, s.rows c l))

    pub present-messages : Messages (present t c)
    unfolding present
    present-messages = taken-messages r (s.rows c l)

  -- A record without a message, stored: none is there.
  pub none_present : (x : Channel) → x.held ≡ 0 → present (with_channel c x t) c ≡ []
  unfolding present
  none_present x z = rw (get_or-set_same t.channels c x no_channel (omega (arith, s.channels)), z)

  module _ (ms : List ℕ) where
    pub holding-channel : channel_of (holding c ms t) c ≡ with_held (length ms) (channel_of t c)
    unfolding holding
    holding-channel = get_or-set_same t.channels c _ no_channel (omega (arith, s.channels))

    pub holding-row : row_of (holding c ms t) c ≡ laid (greater (channel_of t c).held (length ms)) ms (row_of t c)
    unfolding holding
    holding-row = get_or-set_same t.messages c _ [] (omega (arith, s.messages))

    -- What is stored stands there.
    pub holding-present : length ms ≤ most_messages → present (holding c ms t) c ≡ ms
    unfolding present
    holding-present m =
        rw (holding-channel, holding-row)
        (laid-taken (greater (channel_of t c).held (length ms)) ms (row_of t c)
        (greater_both (channel_of t c).held (length ms)).1
        (omega (arith, s.rows c l)))

-- The messages of another channel stay.
module _ (t : Table) (c d : ℕ) (n : d ≢ c) where
  pub other_present : (x : Channel) → present (with_channel c x t) d ≡ present t d
  unfolding present
  other_present x = rw (get_or-set_other t.channels c d x no_channel n)

  pub holding_other : (ms : List ℕ) → present (holding c ms t) d ≡ present t d
  unfolding present holding
  holding_other ms = rw (get_or-set_other t.channels c d (with_held (length ms) (channel_of t c)) no_channel n, get_or-set_other t.messages c d (laid (greater (channel_of t c).held (length ms)) ms (row_of t c)) [] n)

pub holding-shaped : {t : Table} → Shaped t → (c : ℕ) (ms : List ℕ) → Shaped (holding c ms t)
unfolding holding
holding-shaped {t} s c ms = row-shaped (channel-shaped s c _) c _ (laid-length (greater (channel_of t c).held (length ms)) ms (row_of t c))
