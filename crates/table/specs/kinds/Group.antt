-- The columns of the groups of flags, behind those of the mutexes.
use Rattle.std.specs.Prelude.{◌≡◌, refl, List, [], ◌∷◌, ℕ, ◌+◌, length, get_or}
use Rattle.columns.specs.Columns.{Column, column}
use Rattle.columns.specs.Rows.{Kind, tabulate}
use Rattle.rules.specs.Sizes.{group_count}
use Rattle.rules.specs.declared.Group.{Group}
use Rattle.table.specs.kinds.Mutex as mutex

abbrev pub widths : List Column
widths =
    column 1 group_count
    ∷ column 4 group_count
    ∷ []

unfoldable pub made : (ℕ → ℕ) → Group
made r = record { used = r 0; flags = r 1 }

abbrev pub row : Group → List ℕ
row x = x.used ∷ x.flags ∷ []

pub shown : (r : ℕ → ℕ) → row (made r) ≡ tabulate (length widths) r
unfolding made tabulate
shown r = refl

pub whole : (x : Group) → made (λ j. get_or (row x) j 0) ≡ x
unfolding made
whole x = refl

abbrev pub kind : Kind Group
kind =
    record {
      first = (mutex.kind).first + (mutex.kind).wide;
      wide = length widths;
      count = group_count;
      made = made;
      fields = row;
      shown = shown;
      whole = whole;
    }
