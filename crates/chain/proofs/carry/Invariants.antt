use Prim.Native.Nat.{◌+◌}
use Rattle.rules.specs.Move.{next, base_of}
use Rattle.table.specs.Image.{view}
use Rattle.chain.specs.Carry.{Carrying, above}
use Rattle.chain.proofs.carry.Given as goal

abbrev pub invariant-loop-j : goal.invariant-loop-j
invariant-loop-j l = Carrying 32 (next (view l.s)) (base_of (view l.s)) (l.i + 1) l.base l.j l.given

abbrev pub decreases-loop-j : goal.decreases-loop-j
decreases-loop-j l = above l.base l.given
