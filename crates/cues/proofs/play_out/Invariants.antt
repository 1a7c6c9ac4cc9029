use Prim.Native.Nat.{◌-◌}
use lib.ListN.{length}
use Rattle.cues.proofs.Going.{Going}
use Rattle.cues.proofs.play_out.Given as goal

abbrev pub invariant-loop-n : goal.invariant-loop-n
invariant-loop-n l = Going l.initial.cues l.initial.out l.n (length l.out - l.n) l.cues l.out
