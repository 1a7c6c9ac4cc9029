use mathlib.Core.Path.{◌≡◌}
use Prim.Native.Nat.{◌+◌, ◌*◌, ◌≤◌}
use Rattle.table.specs.Image.{view}
use Rattle.sound.specs.Packed.{frees}
use Rattle.sound.proofs.queues.are_others_free.Given as goal

abbrev pub invariant-loop-i : goal.invariant-loop-i
invariant-loop-i l = (l.m ≤ l.n + 255 * (l.i + 1)) × (l.m ≡ l.n + frees (1 + 7 * l.i) (view l.s))
