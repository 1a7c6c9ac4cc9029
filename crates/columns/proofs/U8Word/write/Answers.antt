use Rattle.std.proofs.Common.{arith}
use Rattle.columns.proofs.Cells as cells
use Rattle.columns.proofs.U8Word.write.Goals as goal

pub returns : goal.returns
returns c = let a = c.args in (cells.put1 a.s.now a.at a.self (omega arith) (omega arith), omega arith)
