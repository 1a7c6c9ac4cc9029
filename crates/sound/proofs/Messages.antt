-- The slots of a row of messages, turn by turn.
use mathlib.Core.Path.{◌≡◌, refl, sym, ◌∙◌}
use mathlib.Core.Bool.{Bool, true, false, ◌&&◌}
use mathlib.Core.List.{List}
use Prim.Native.Nat.{ℕ, ◌+◌, ◌≤◌}
use native.Mathlib.Omega.{arith}
use lib.Dec.{eqb, leb}
use lib.ListN.{length, get_or, get_or-eq_default}
use lib.Bits.{bit_or, and_le_l, and_le_r, or_add_and}
use borrow.Author.Tests.{le-leb, lt-leb}
use Rattle.rules.specs.Sizes.{most_messages}
use Rattle.rules.specs.Sound.{each, implies}
use Rattle.rules.specs.Decides.{same_test, equals, last, both}
use Rattle.sound.specs.Tests.{each_none, each_and, each_on}
use Rattle.sound.specs.Channels.{is_free_from, are_free_from}

-- Bits of two numbers together: there are none where neither has any.
none_of : (a b : ℕ) → eqb (bit_or a b) 0 ≡ eqb b 0 && eqb a 0
none_of a b = same_test (last together equals apart) (both equals equals)
  where
    together : (b ≡ 0) × (a ≡ 0) → bit_or a b ≡ 0
    together (y, x) = omega (arith, or_add_and a b)

    apart : bit_or a b ≡ 0 → (b ≡ 0) × (a ≡ 0)
    apart e = (omega (arith, or_add_and a b, and_le_l a b), omega (arith, or_add_and a b, and_le_r a b))

either_way : (b : Bool) → implies b true ≡ true
either_way true = refl
either_way false = refl

module _ (from : ℕ) (row : List ℕ) where
  pub free_start : eqb 0 0 ≡ each from (is_free_from from row)
  free_start = each_none _ ∙ each_on (is_free_from from row) 0 from (omega arith) (λ i a b. rw (lt-leb from i b))

  pub free_next : (any j : ℕ) {m : ℕ} → from ≤ j → m ≡ get_or row j 0 → eqb any 0 ≡ each j (is_free_from from row) → eqb (bit_or any m) 0 ≡ each (j + 1) (is_free_from from row)
  free_next any j {m} l e f =
      let own : eqb m 0 ≡ is_free_from from row j = rw (le-leb from j l, e) in
      none_of any m ∙ each_and (is_free_from from row) j own f

  -- Behind the row there is nothing.
  pub free_end : {b : Bool} {j : ℕ} → length row ≡ most_messages → most_messages ≤ j → b ≡ each j (is_free_from from row) → b ≡ are_free_from from row
  unfolding are_free_from
  free_end {b} {j} n l e = e ∙ sym (each_on (is_free_from from row) most_messages j l (λ i a c. rw (get_or-eq_default row 0 {n = i} (omega arith)) (either_way (leb from i))))
