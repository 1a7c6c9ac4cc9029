use Rattle.rules.specs.Kinds.{widths}
use Rattle.tape.proofs.Numbers.{ReadSoFar}
use Rattle.tape.proofs.numbers_in.Given as goal

abbrev pub invariant-loop-i : goal.invariant-loop-i
invariant-loop-i l = ReadSoFar l.body (widths l.k) l.found l.widths l.rest l.i
