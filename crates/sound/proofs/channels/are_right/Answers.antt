use mathlib.Core.Path.{◌≡◌, sym, ap, ◌∙◌}
use mathlib.Core.Bool.{Bool, ◌&&◌}
use mathlib.Core.List.{List}
use Prim.Native.Nat.{ℕ, ◌<◌}
use native.Mathlib.Omega.{arith}
use lib.ListN.{get_or}
use Rattle.rules.specs.Sizes.{channel_count}
use Rattle.rules.specs.Table.{channel_of, row_of}
use Rattle.rules.specs.Sound.{each, is_sound_channel}
use Rattle.table.specs.Image.{view}
use Rattle.table.specs.Messages.{view-row-small}
use Rattle.sound.specs.Channels.{has_sound_room, is_row_sound, channel-rows}
use Rattle.sound.proofs.channels.are_right.Goals as goal

-- What the test of the records told.
told : (l : List ℕ) → ((n : ℕ) → get_or l n 0 < 256) → {b : Bool} → b ≡ each channel_count (λ c. has_sound_room (channel_of (view l) c))
    → b && each channel_count (is_row_sound (view l)) ≡ each channel_count (λ c. is_sound_channel (channel_of (view l) c) (row_of (view l) c))
told l small e = ap (λ (b : Bool). b && each channel_count (is_row_sound (view l))) e ∙ channel-rows (view l) (λ c h j _. omega (arith, view-row-small l c h small j))

pub returns-then-not-are_rooms_right : goal.returns-then-not-are_rooms_right
returns-then-not-are_rooms_right c =
    told c.args.s.now c.fits-s (sym c.if-not-are_rooms_right.true ∙ c.are_rooms_right.ensures)

pub returns : goal.returns
returns c =
    c.are_rows_right.ensures
    ∙ told c.args.s.now c.fits-s (sym c.if-not-are_rooms_right.false ∙ c.are_rooms_right.ensures)
