-- The columns of the mutexes, behind those of the semaphores.
use Rattle.std.specs.Prelude.{◌≡◌, refl, List, [], ◌∷◌, ℕ, ◌+◌, length, get_or}
use Rattle.columns.specs.Columns.{Column, column}
use Rattle.columns.specs.Rows.{Kind, tabulate}
use Rattle.rules.specs.Sizes.{mutex_count}
use Rattle.rules.specs.declared.Mutex.{Mutex}
use Rattle.table.specs.kinds.Semaphore as semaphore

abbrev pub widths : List Column
widths =
    column 1 mutex_count
    ∷ column 1 mutex_count
    ∷ column 1 mutex_count
    ∷ []

unfoldable pub made : (ℕ → ℕ) → Mutex
made r = record { used = r 0; holder = r 1; nesting = r 2 }

abbrev pub row : Mutex → List ℕ
row x = x.used ∷ x.holder ∷ x.nesting ∷ []

pub shown : (r : ℕ → ℕ) → row (made r) ≡ tabulate (length widths) r
unfolding made tabulate
shown r = refl

pub whole : (x : Mutex) → made (λ j. get_or (row x) j 0) ≡ x
unfolding made
whole x = refl

abbrev pub kind : Kind Mutex
kind =
    record {
      first = (semaphore.kind).first + (semaphore.kind).wide;
      wide = length widths;
      count = mutex_count;
      made = made;
      fields = row;
      shown = shown;
      whole = whole;
    }
