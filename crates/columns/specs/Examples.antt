-- Worked cases of the definitions: three columns of two entries, of one, two and one bytes.
use Rattle.std.specs.Prelude.{◌≡◌, refl, List, [], ◌∷◌, ℕ}
use Rattle.columns.specs.Columns.{word, bytes, splice, put_at, numbers, spelled, Column, column, total, offset, columns, image}

abbrev three : List Column
three = column 1 2 ∷ column 2 2 ∷ column 1 2 ∷ []

abbrev some : List ℕ
some = 7 ∷ 8 ∷ 1 ∷ 2 ∷ 0 ∷ 255 ∷ 5 ∷ 6 ∷ []

pub read : columns three some ≡ (7 ∷ 8 ∷ []) ∷ (513 ∷ 65280 ∷ []) ∷ (5 ∷ 6 ∷ []) ∷ []
unfolding columns numbers word
read = refl

pub written : image three ((7 ∷ 8 ∷ []) ∷ (513 ∷ 65280 ∷ []) ∷ (5 ∷ 6 ∷ []) ∷ []) ≡ some
unfolding image spelled bytes
written = refl

pub places : (offset three 1 ≡ 2) × (offset three 2 ≡ 6) × (total three ≡ 8)
places = (refl, refl, refl)

-- Entry 1 of column 1.
pub stored : put_at 2 4 258 some ≡ 7 ∷ 8 ∷ 1 ∷ 2 ∷ 2 ∷ 1 ∷ 5 ∷ 6 ∷ []
unfolding splice bytes
stored = refl
