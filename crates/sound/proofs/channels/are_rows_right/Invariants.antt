use mathlib.Core.Path.{◌≡◌}
use mathlib.Core.Bool.{true}
use Rattle.rules.specs.Sound.{each}
use Rattle.table.specs.Image.{view}
use Rattle.sound.specs.Channels.{is_row_sound}
use Rattle.sound.proofs.channels.are_rows_right.Given as goal

abbrev pub invariant-loop-c : goal.invariant-loop-c
invariant-loop-c l = (each l.c (is_row_sound (view l.s)) ≡ true)
