use mathlib.Core.Path.{◌≡◌}
use Prim.Native.Nat.{◌≤◌}
use lib.Dec.{eqb}
use Rattle.rules.specs.Table.{row_of}
use Rattle.rules.specs.Sound.{each}
use Rattle.table.specs.Image.{view}
use Rattle.sound.specs.Channels.{is_free_from}
use Rattle.sound.proofs.channels.are_free_from.Given as goal

abbrev pub invariant-loop-j : goal.invariant-loop-j
invariant-loop-j l = (l.from ≤ l.j) × (eqb l.any 0 ≡ each l.j (is_free_from l.from (row_of (view l.s) l.c)))
