use native.Mathlib.Omega.{arith}
use Rattle.tape.specs.Line.{line_of, wrote_after, decimal-short, runner-short}
use Rattle.tape.proofs.write_fitting.Goals as goal

pub write-b-requires : goal.write-b-requires
write-b-requires c =
    omega (arith, decimal-short c.args.answer)

pub write_runner-c-requires : goal.write_runner-c-requires
write_runner-c-requires c =
    omega (arith, decimal-short c.args.answer)

pub write-requires : goal.write-requires
write-requires c =
    let args = c.args in
    omega (arith, decimal-short args.answer, runner-short args.runs)

pub returns : goal.returns
unfolding line_of
returns c =
    wrote_after
    (wrote_after c.write_decimal-a.ensures (omega arith)
    (wrote_after c.write-b.ensures (omega (arith, decimal-short c.args.answer)) c.write_runner-c.ensures))
    (omega arith)
    c.write.ensures
