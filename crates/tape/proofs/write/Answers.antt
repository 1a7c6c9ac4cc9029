use Rattle.std.proofs.Common.{arith}
use Rattle.tape.specs.Line.{wrote-part}
use Rattle.tape.proofs.write.Goals as goal

pub returns : goal.returns
returns c = wrote-part c.args.at _ c.args.text.now _ c.args.out.now (omega arith) c.copy_from_slice.ensures.after
