use Rattle.table.proofs.Words.{bit_none, bit_is}
use Rattle.table.proofs.levels.bit_of.Goals as goal

pub returns-then-l-ge-LEVELS : goal.returns-then-l-ge-LEVELS
returns-then-l-ge-LEVELS c =
    bit_none c.args.l c.if-l-ge-LEVELS.true

pub returns : goal.returns
returns c =
    bit_is c.args.l
