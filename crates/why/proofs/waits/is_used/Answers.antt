use Rattle.std.proofs.Common.{arith}
use Rattle.table.specs.Image.{view}
use Rattle.why.specs.Awaited.{used_semaphore, used-mutex, used_group, used-channel, used_none}
use Rattle.why.proofs.waits.is_used.Goals as goal

pub returns-in-2 : goal.returns-in-2
returns-in-2 c =
    let a = c.args in used_semaphore (view a.s.now) a.i c.get_state.ensures c.get_object-object.ensures c.in-2.is c.used_at.ensures

pub returns-in-3 : goal.returns-in-3
returns-in-3 c =
    let a = c.args in used-mutex (view a.s.now) a.i c.get_state.ensures c.get_object-object.ensures c.in-3.is c.used_at-in-3.ensures

pub returns-in-4 : goal.returns-in-4
returns-in-4 c =
    let a = c.args in used_group (view a.s.now) a.i c.get_state.ensures c.get_object-object.ensures c.in-4.is c.used_at-in-4.ensures

pub returns-in-5 : goal.returns-in-5
returns-in-5 c =
    let a = c.args in used-channel (view a.s.now) a.i c.get_state.ensures c.get_object-object.ensures c.in-5.is c.used_at-in-5.ensures

pub returns-in_default : goal.returns-in_default
returns-in_default c =
    let a = c.args in used_none (view a.s.now) a.i c.get_state.ensures (λ e. omega arith) (λ e. omega arith) (λ e. omega arith) (λ e. omega arith)
