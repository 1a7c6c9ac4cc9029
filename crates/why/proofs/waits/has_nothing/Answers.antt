use Rattle.std.proofs.Common.{arith}
use Rattle.table.specs.Image.{view}
use Rattle.why.specs.Awaited.{nothing_semaphore, nothing-mutex, nothing-channel, nothing_else}
use Rattle.why.proofs.waits.has_nothing.Goals as goal

pub returns-in-2 : goal.returns-in-2
returns-in-2 c =
    let a = c.args in nothing_semaphore (view a.s.now) a.i c.get_state.ensures c.get_object-object.ensures c.in-2.is c.is_empty.ensures

pub returns-in-3 : goal.returns-in-3
returns-in-3 c =
    let a = c.args in nothing-mutex (view a.s.now) a.i c.get_state.ensures c.get_object-object.ensures c.in-3.is c.is_held.ensures

pub returns-in-5 : goal.returns-in-5
returns-in-5 c =
    let a = c.args in nothing-channel (view a.s.now) a.i c.get_state.ensures c.get_object-object.ensures c.in-5.is c.has_no_message.ensures

pub returns-in_default : goal.returns-in_default
returns-in_default c =
    let a = c.args in nothing_else (view a.s.now) a.i c.get_state.ensures (λ e. omega arith) (λ e. omega arith) (λ e. omega arith)
