use Rattle.rules.specs.Move.{next, base_of}
use Rattle.table.specs.Image.{view}
use Rattle.chain.specs.Carry.{HadTurns}
use Rattle.chain.proofs.carry_eight.Given as goal

abbrev pub invariant-loop-i : goal.invariant-loop-i
invariant-loop-i l = HadTurns 32 (next (view l.s)) (base_of (view l.s)) l.i l.given
