use Rattle.std.specs.Prelude.{◌≡◌, refl}
use Rattle.std.proofs.Common.{arith, le_antisymm}
use Rattle.table.specs.Shape.{view-shaped}
use Rattle.table.proofs.Laid.{laying_none, laying_more, carry_next, one_more}
use Rattle.table.proofs.messages.add_first.Goals as goal

pub loop-i-init : goal.loop-i-init
loop-i-init c =
    (refl, laying_none c.requires (view-shaped c.args.s.now (omega arith)) _)

pub loop-i-preserved : goal.loop-i-preserved
loop-i-preserved c =
    let v = c.loop-i.invariant in
    (carry_next v.1 (omega (arith, c.loop-i-test.true, c.count_in-n.ensures.0)) c.get_message_at-next.ensures, laying_more v.1 v.0 c.put_message_at.ensures)

pub returns : goal.returns
returns c =
    let n = c.count_in-n in
    let e : c.loop-i.i ≡ n.result = le_antisymm c.loop-i.auto.i-end c.loop-i-test.false in
    let x = laying_more c.loop-i.invariant.1 c.loop-i.invariant.0 (rw (← e) at c.put_slot.ensures) in
    one_more x c.set_held.ensures (omega (arith, e, n.ensures.0)) (omega arith) (omega (arith, n.ensures.0))
