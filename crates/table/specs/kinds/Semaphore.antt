-- The columns of the semaphores, behind those of the tasks.
use Rattle.std.specs.Prelude.{◌≡◌, refl, List, [], ◌∷◌, ℕ, ◌+◌, length, get_or}
use Rattle.columns.specs.Columns.{Column, column}
use Rattle.columns.specs.Rows.{Kind, tabulate}
use Rattle.rules.specs.Sizes.{semaphore_count}
use Rattle.rules.specs.declared.Semaphore.{Semaphore}
use Rattle.table.specs.kinds.Task as task

abbrev pub widths : List Column
widths =
    column 1 semaphore_count
    ∷ column 4 semaphore_count
    ∷ []

unfoldable pub made : (ℕ → ℕ) → Semaphore
made r = record { used = r 0; count = r 1 }

abbrev pub row : Semaphore → List ℕ
row x = x.used ∷ x.count ∷ []

pub shown : (r : ℕ → ℕ) → row (made r) ≡ tabulate (length widths) r
unfolding made tabulate
shown r = refl

pub whole : (x : Semaphore) → made (λ j. get_or (row x) j 0) ≡ x
unfolding made
whole x = refl

abbrev pub kind : Kind Semaphore
kind =
    record {
      first = (task.kind).first + (task.kind).wide;
      wide = length widths;
      count = semaphore_count;
      made = made;
      fields = row;
      shown = shown;
      whole = whole;
    }
