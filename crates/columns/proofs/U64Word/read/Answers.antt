use Rattle.std.proofs.Common.{arith}
use Rattle.columns.proofs.Cells as cells
use Rattle.columns.proofs.U64Word.read.Goals as goal

pub returns : goal.returns
returns c = omega (arith, c.from_le_bytes.ensures, cells.read8 c.args.s.now c.args.at)
