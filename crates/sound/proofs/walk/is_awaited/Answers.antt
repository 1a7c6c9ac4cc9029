use mathlib.Core.Bool.{and-true}
use Prim.Native.Nat.{◌-◌}
use native.Mathlib.Omega.{arith}
use lib.Dec.{eqb}
use Rattle.rules.specs.Table.{semaphore_of, semaphore_queue, group_of, group_queue, channel_of, channel_queue}
use Rattle.laws.specs.queues.Rows.{among-semaphores, among-mutexes, among-groups, among-channels}
use Rattle.table.specs.Image.{view}
use Rattle.sound.specs.Waits.{none_above, awaited_none, awaited_one}
use Rattle.sound.proofs.walk.is_awaited.Goals as goal

pub returns-then-q-eq0 : goal.returns-then-q-eq0
returns-then-q-eq0 c =
    let a = c.args in awaited_none (view a.s.now) a.q c.if-q-eq0.true

pub returns-then-q-lt-MUTEX_QUEUE : goal.returns-then-q-lt-MUTEX_QUEUE
returns-then-q-lt-MUTEX_QUEUE c =
    let a = c.args in
    let t = view a.s.now in
    cc (awaited_one t a.q among-semaphores (omega arith) (omega arith), none_above (semaphore_of t (a.q - semaphore_queue 0)).count)

pub returns-then-q-lt-GROUP_QUEUE : goal.returns-then-q-lt-GROUP_QUEUE
returns-then-q-lt-GROUP_QUEUE c =
    let a = c.args in
    cc (awaited_one (view a.s.now) a.q among-mutexes (omega arith) (omega arith))

pub returns-then-q-lt-CHANNEL_QUEUE : goal.returns-then-q-lt-CHANNEL_QUEUE
returns-then-q-lt-CHANNEL_QUEUE c =
    let a = c.args in
    cc (awaited_one (view a.s.now) a.q among-groups (omega arith) (omega arith), and-true (eqb (group_of (view a.s.now) (a.q - group_queue 0)).used 1))

pub returns : goal.returns
returns c =
    let a = c.args in
    let t = view a.s.now in
    cc (awaited_one t a.q among-channels (omega arith) (omega arith), none_above (channel_of t (a.q - channel_queue 0)).held)
