use native.Mathlib.Omega.{arith}
use Rattle.rules.specs.Table.{able_queue}
use Rattle.table.specs.Image.{view}
use Rattle.table.specs.Queues.{view-slots}
use Rattle.table.proofs.Words.{at_past, at_task}
use Rattle.table.proofs.levels.is_at.Goals as goal

pub returns-then-k-ge-SLOTS : goal.returns-then-k-ge-SLOTS
returns-then-k-ge-SLOTS c =
    let a = c.args in
    at_past a.l a.k (view a.s.now) c.if-k-ge-SLOTS.true (view-slots a.s.now (omega arith) able_queue (omega arith))

pub returns : goal.returns
returns c =
    let a = c.args in
    at_task a.l a.k (view a.s.now) _ _ c.slot_in-v.ensures c.if-v-eq0.false c.work_at.ensures
