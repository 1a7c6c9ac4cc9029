-- The columns of the tasks: a byte for each field, then two, then four.
use Rattle.std.specs.Prelude.{◌≡◌, refl, List, [], ◌∷◌, ℕ, ◌+◌, length, get_or}
use Rattle.columns.specs.Columns.{Column, column}
use Rattle.columns.specs.Rows.{Kind, tabulate}
use Rattle.rules.specs.Sizes.{task_count}
use Rattle.rules.specs.declared.Task.{Task}

-- The width and the count of each column; what is made of a row, a number for each column; and the row.
abbrev pub widths : List Column
widths =
    column 1 task_count
    ∷ column 1 task_count
    ∷ column 1 task_count
    ∷ column 1 task_count
    ∷ column 1 task_count
    ∷ column 1 task_count
    ∷ column 1 task_count
    ∷ column 1 task_count
    ∷ column 1 task_count
    ∷ column 1 task_count
    ∷ column 2 task_count
    ∷ column 2 task_count
    ∷ column 4 task_count
    ∷ column 4 task_count
    ∷ column 4 task_count
    ∷ []

unfoldable pub made : (ℕ → ℕ) → Task
made r =
    record {
      used = r 0;
      base = r 1;
      work = r 2;
      suspend = r 3;
      state = r 4;
      object = r 5;
      marked = r 6;
      outcome = r 7;
      test = r 8;
      consume = r 9;
      quantum = r 10;
      left = r 11;
      due = r 12;
      mask = r 13;
      message = r 14;
    }

abbrev pub row : Task → List ℕ
row k =
    k.used
    ∷ k.base
    ∷ k.work
    ∷ k.suspend
    ∷ k.state
    ∷ k.object
    ∷ k.marked
    ∷ k.outcome
    ∷ k.test
    ∷ k.consume
    ∷ k.quantum
    ∷ k.left
    ∷ k.due
    ∷ k.mask
    ∷ k.message
    ∷ []

pub shown : (r : ℕ → ℕ) → row (made r) ≡ tabulate (length widths) r
unfolding made tabulate
shown r = refl

pub whole : (k : Task) → made (λ j. get_or (row k) j 0) ≡ k
unfolding made
whole k = refl

abbrev pub kind : Kind Task
kind = record { first = 0; wide = length widths; count = task_count; made = made; fields = row; shown = shown; whole = whole }

-- The column of the working priorities, which are lent as the keys of every queue.
abbrev pub work_column : ℕ
work_column = kind.first + 2
