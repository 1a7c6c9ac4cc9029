use native.Mathlib.Omega.{arith}
use Rattle.rules.specs.Table.{row_of}
use Rattle.table.specs.Image.{view}
use Rattle.table.specs.Messages.{view-row-long}
use Rattle.sound.proofs.Messages.{free_start, free_next, free_end}
use Rattle.sound.proofs.channels.are_free_from.Goals as goal

pub loop-j-init : goal.loop-j-init
loop-j-init c =
    let a = c.args in (omega arith, free_start a.from (row_of (view a.s.now) a.c))

pub loop-j-preserved : goal.loop-j-preserved
loop-j-preserved c =
    let l = c.loop-j in
    let a = c.args in
    (omega arith, free_next a.from (row_of (view a.s.now) a.c) l.any l.j l.invariant.0 c.get_message_at-any.ensures l.invariant.1)

pub returns : goal.returns
returns c =
    let l = c.loop-j in
    let a = c.args in
    free_end a.from (row_of (view a.s.now) a.c) (view-row-long a.s.now a.c (omega arith)) (omega arith) l.invariant.1
