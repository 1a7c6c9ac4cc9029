use native.Mathlib.Omega.{arith}
use Rattle.table.specs.Shape.{view-shaped}
use Rattle.why.specs.Awaited.{holder_none, holder_past, holder-within}
use Rattle.why.proofs.waits.is_holder_used.Goals as goal

pub returns-then-h-eq0 : goal.returns-then-h-eq0
returns-then-h-eq0 c =
    let a = c.args in holder_none (view-shaped a.s.now (omega arith)) a.m c.get_holder-h.ensures c.if-h-eq0.true

pub returns-then-h-gt32 : goal.returns-then-h-gt32
returns-then-h-gt32 c =
    let a = c.args in holder_past (view-shaped a.s.now (omega arith)) a.m c.get_holder-h.ensures c.if-h-gt32.true

pub returns : goal.returns
returns c =
    let a = c.args in holder-within (view-shaped a.s.now (omega arith)) a.m c.get_holder-h.ensures c.if-h-eq0.false c.get_used.ensures
