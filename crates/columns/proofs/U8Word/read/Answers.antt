use Rattle.columns.specs.Words.{byte-read}
use Rattle.columns.proofs.U8Word.read.Goals as goal

pub returns : goal.returns
returns c = byte-read c.args.at c.args.s.now
