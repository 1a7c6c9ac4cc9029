-- The columns of the channels, behind those of the groups of flags. Their messages stand in rows of their own.
use Rattle.std.specs.Prelude.{◌≡◌, refl, List, [], ◌∷◌, ℕ, ◌+◌, length, get_or}
use Rattle.columns.specs.Columns.{Column, column}
use Rattle.columns.specs.Rows.{Kind, tabulate}
use Rattle.rules.specs.Sizes.{channel_count}
use Rattle.rules.specs.declared.Channel.{Channel}
use Rattle.table.specs.kinds.Group as group

abbrev pub widths : List Column
widths =
    column 1 channel_count
    ∷ column 1 channel_count
    ∷ column 1 channel_count
    ∷ []

unfoldable pub made : (ℕ → ℕ) → Channel
made r = record { used = r 0; capacity = r 1; held = r 2 }

abbrev pub row : Channel → List ℕ
row x = x.used ∷ x.capacity ∷ x.held ∷ []

pub shown : (r : ℕ → ℕ) → row (made r) ≡ tabulate (length widths) r
unfolding made tabulate
shown r = refl

pub whole : (x : Channel) → made (λ j. get_or (row x) j 0) ≡ x
unfolding made
whole x = refl

abbrev pub kind : Kind Channel
kind =
    record {
      first = (group.kind).first + (group.kind).wide;
      wide = length widths;
      count = channel_count;
      made = made;
      fields = row;
      shown = shown;
      whole = whole;
    }
