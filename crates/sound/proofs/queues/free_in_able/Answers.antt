use native.Mathlib.Omega.{arith}
use Rattle.rules.specs.Table.{queue_of, able_queue}
use Rattle.table.specs.Image.{view}
use Rattle.table.specs.Queues.{view-slots}
use Rattle.sound.proofs.Turns.{free_at, free_end}
use Rattle.sound.proofs.queues.free_in_able.Goals as goal

pub loop-j-preserved : goal.loop-j-preserved
loop-j-preserved c =
    let l = c.loop-j in
    let s = c.args.s.now in
    omega (arith, c.free_at-n.ensures, l.invariant, free_at (queue_of (view s) able_queue) l.j (omega (arith, view-slots s (omega arith) able_queue (omega arith))))

pub returns : goal.returns
returns c =
    let l = c.loop-j in
    let s = c.args.s.now in
    omega (arith, l.invariant, free_end (queue_of (view s) able_queue) l.j (omega (arith, view-slots s (omega arith) able_queue (omega arith))))
