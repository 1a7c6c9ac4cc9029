use native.Mathlib.Omega.{arith}
use Rattle.table.specs.Image.{view}
use Rattle.table.specs.Queues.{view-slots}
use Rattle.sound.proofs.Turns.{seven_at, seven_end}
use Rattle.sound.proofs.queues.free_in_seven.Goals as goal

pub loop-j-preserved : goal.loop-j-preserved
loop-j-preserved c =
    let l = c.loop-j in
    let a = c.args in
    omega (arith, c.free_at_seven-n.ensures, l.invariant, seven_at (view a.s.now) a.q l.j (λ p h. omega (arith, view-slots a.s.now (omega arith) p (omega arith))))

pub returns : goal.returns
returns c =
    let l = c.loop-j in
    let a = c.args in
    omega (arith, l.invariant, seven_end (view a.s.now) a.q l.j (λ p h. omega (arith, view-slots a.s.now (omega arith) p (omega arith))))
