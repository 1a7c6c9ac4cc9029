-- How messages stand in a channel, so that each table has one image: packed from the first slot on, the next one first, and a slot without a message
-- is 0.
use Rattle.std.specs.Prelude.{cond, List, [], ◌∷◌, ℕ, zero, suc, ltb, length, get_or, take, drop}
use Rattle.rules.specs.Table.{Table, channel_of, row_of, with_channel, with_held, with_row}

-- The messages of channel c, the next one first.
unfoldable pub present : Table → ℕ → List ℕ
present t c = take (channel_of t c).held (row_of t c)

-- A row whose first n slots are those of l, 0 where l has ended; the others stay.
unfoldable pub laid : ℕ → List ℕ → List ℕ → List ℕ
laid zero l row = row
laid (suc n) l [] = []
laid (suc n) l (x ∷ row) = get_or l 0 0 ∷ laid n (drop 1 l) row

abbrev pub greater : ℕ → ℕ → ℕ
greater m n = cond (ltb m n) n m

-- Channel c has the messages l: they stand from the first slot on, and a slot that had a message and has none now is 0.
unfoldable pub holding : ℕ → List ℕ → Table → Table
holding c l t =
    with_row c (laid (greater (channel_of t c).held (length l)) l (row_of t c)) (with_channel c (with_held (length l) (channel_of t c)) t)
