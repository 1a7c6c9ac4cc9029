use Rattle.std.proofs.Common.{◌≡◌, ◌%◌, ◌≤◌}
use Rattle.rules.specs.Move.{next, base_of}
use Rattle.table.specs.Image.{view}
use Rattle.chain.specs.Carry.{HadTurns}
use Rattle.chain.proofs.carry_all.Given as goal

abbrev pub invariant-loop-a : goal.invariant-loop-a
invariant-loop-a l = (l.a ≤ 32) × (l.a % 8 ≡ 0) × HadTurns 32 (next (view l.s)) (base_of (view l.s)) l.a l.given
