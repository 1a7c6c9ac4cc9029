use Rattle.table.specs.Shape.{fresh_default, fresh-zero}
use Rattle.table.proofs.fresh.fresh_byte.Goals as goal

pub returns-then-i-eq-DEFAULT_QUANTUM : goal.returns-then-i-eq-DEFAULT_QUANTUM
returns-then-i-eq-DEFAULT_QUANTUM c = fresh_default c.if-i-eq-DEFAULT_QUANTUM.true

pub returns : goal.returns
returns c = fresh-zero c.if-i-eq-DEFAULT_QUANTUM.false
