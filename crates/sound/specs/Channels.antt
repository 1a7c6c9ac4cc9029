-- The tests of the channels, as the code asks: the records, and the rows of messages. Together they are the rules' test of a channel.
use Rattle.std.specs.Prelude.{◌≡◌, Bool, not, ◌&&◌, ◌||◌, List, ℕ, ◌≤◌, eqb, leb, get_or}
use Rattle.std.proofs.Common.{ap, pos_of_ne-zero, arith}
use Rattle.rules.specs.Sizes.{channel_count, most_messages, greatest_message}
use Rattle.rules.specs.declared.Channel.{Channel}
use Rattle.rules.specs.Table.{Table, channel_of, row_of}
use Rattle.rules.specs.Sound.{Each, each, implies, SoundChannel, is_sound_channel}
use Rattle.rules.proofs.Tested.{channel_right}
use Rattle.rules.specs.Decides.{Decides, same_test, equals, at_most, fails, if_so, first, last, each_one}
use Rattle.sound.specs.Tests.{unless}

-- What is in use has room for a message, and no other has.
unfoldable pub has_sound_room : Channel → Bool
has_sound_room x =
    leb x.used 1
    && (leb x.capacity most_messages
    && (leb x.held x.capacity
    && ((not (eqb x.used 0) || eqb x.capacity 0)
    && (not (eqb x.used 1) || not (eqb x.capacity 0)))))

-- The slots from a number on are 0.
abbrev pub is_free_from : ℕ → List ℕ → ℕ → Bool
is_free_from from row j = implies (leb from j) (eqb (get_or row j 0) 0)

unfoldable pub are_free_from : ℕ → List ℕ → Bool
are_free_from from row = each most_messages (is_free_from from row)

-- What a channel does not hold is 0.
abbrev pub is_row_sound : Table → ℕ → Bool
is_row_sound t c = are_free_from (channel_of t c).held (row_of t c)

module _ (x : Channel) where
  record Room : Type 0 where
    used : x.used ≤ 1
    capacity : x.capacity ≤ most_messages
    held : x.held ≤ x.capacity
    free : x.used ≡ 0 → x.capacity ≡ 0
    some : x.used ≡ 1 → x.capacity ≡ 0 → ⊥

  room : Decides (has_sound_room x) Room
  unfolding has_sound_room
  room =
      first (λ r. r.used) at_most λ used.
      first (λ r. r.capacity) at_most λ capacity.
      first (λ r. r.held) at_most λ held.
      first (λ r. r.free) (unless equals equals) λ free.
      last (λ r. r.some) (unless equals (fails equals)) λ some.
      record { used = used; capacity = capacity; held = held; free = free; some = some }

  module _ (row : List ℕ) where
    room_of : SoundChannel x row → Room
    room_of r =
        record {
          used = r.used;
          capacity = r.capacity;
          held = r.held;
          free = λ e. ap (λ (y : Channel). y.capacity) (r.free e);
          some = λ e z. omega (arith, r.room e, z);
        }

    abbrev Unused : Type 0
    Unused = Each most_messages (λ j. x.held ≤ j → get_or row j 0 ≡ 0)

    unused : Decides (are_free_from x.held row) Unused
    unfolding are_free_from
    unused = each_one λ j l. if_so at_most equals

    channel_of_lem : Each most_messages (λ j. get_or row j 0 ≤ greatest_message) → Room → Unused → SoundChannel x row
    channel_of_lem messages r unused =
        record {
          used = r.used;
          capacity = r.capacity;
          held = r.held;
          free = λ e. let held : x.held ≡ 0 = omega (arith, r.held, r.free e) in λ i. record { used = e i; capacity = r.free e i; held = held i };
          room = λ e. pos_of_ne-zero (r.some e);
          messages = messages;
          unused = unused;
        }

-- As the code asks, of messages that fit their bytes.
pub channel-rows : (t : Table) → Each channel_count (λ c. Each most_messages (λ j. get_or (row_of t c) j 0 ≤ greatest_message))
    → each channel_count (λ c. has_sound_room (channel_of t c)) && each channel_count (is_row_sound t)
    ≡ each channel_count (λ c. is_sound_channel (channel_of t c) (row_of t c))
channel-rows t m =
    same_test
    (first (λ r c l. room_of (channel_of t c) (row_of t c) (r c l)) (each_one λ c l. room (channel_of t c)) λ rooms.
    last (λ r c l. (r c l).unused) (each_one λ c l. unused (channel_of t c) (row_of t c)) λ unused.
    λ c l. channel_of_lem (channel_of t c) (row_of t c) (m c l) (rooms c l) (unused c l))
    (each_one λ c l. channel_right (channel_of t c) (row_of t c))
