use mathlib.Core.Path.{◌≡◌}
use Prim.Native.Nat.{◌-◌, ◌≤◌}
use Rattle.rules.specs.Group.{woken}
use Rattle.table.specs.Image.{view}
use Rattle.group.proofs.wake.Given as goal

abbrev pub invariant-loop : goal.invariant-loop
invariant-loop l = (l.k ≤ l.counter) × (woken 32 l.i l.flags 0 0 (view l.initial.s) ≡ woken (32 - l.counter) l.i l.flags l.k l.together (view l.s))
