use Rattle.std.proofs.Common.{arith}
use borrow.Author.Tests.{ne_eqb}
use Rattle.table.specs.Image.{view}
use Rattle.why.specs.Awaited.{apart-mutex, apart_else}
use Rattle.why.proofs.waits.is_apart.Goals as goal

pub returns-then-get_state-ne-WAITS_MUTEX : goal.returns-then-get_state-ne-WAITS_MUTEX
returns-then-get_state-ne-WAITS_MUTEX c =
    let a = c.args in rw (ne_eqb _ _ c.if-get_state-ne-WAITS_MUTEX.true) (apart_else (view a.s.now) a.i c.get_state.ensures (omega arith) c.if-get_state-ne-WAITS_MUTEX.true)

pub returns-else-get_state-ne-WAITS_MUTEX : goal.returns-else-get_state-ne-WAITS_MUTEX
returns-else-get_state-ne-WAITS_MUTEX c =
    let a = c.args in apart-mutex (view a.s.now) a.i c.get_state.ensures c.get_object.ensures c.if-get_state-ne-WAITS_MUTEX.false c.holder_of.ensures
