use Rattle.std.proofs.Common.{arith}
use Rattle.columns.proofs.Cells as cells
use Rattle.columns.proofs.U16Word.write.Goals as goal

pub returns : goal.returns
returns c = let a = c.args in (cells.put2 a.s.now a.at a.self c.to_le_bytes-bytes.result c.to_le_bytes-bytes.ensures (omega arith), omega arith)
