use Rattle.std.specs.Prelude.{◌≡◌, ◌-◌}
use Rattle.std.proofs.Common.{sym, ◌∙◌, arith, le_antisymm, length-drop}
use Rattle.rules.specs.Messages.{present}
use Rattle.table.specs.Image.{view}
use Rattle.table.specs.Shape.{view-shaped}
use Rattle.table.proofs.Laid.{laying_none, laying_more, slot_next, none_next, none_taken, no_more}
use Rattle.table.proofs.messages.take_first.Goals as goal

pub returns-then-n-eq0 : goal.returns-then-n-eq0
returns-then-n-eq0 c =
    none_taken c.requires (view-shaped c.args.s.now (omega arith)) (sym c.if-n-eq0.true ∙ c.count_in-n.ensures.0)

pub loop-i-init : goal.loop-i-init
loop-i-init c =
    laying_none c.requires (view-shaped c.args.s.now (omega arith)) _

pub loop-i-preserved : goal.loop-i-preserved
loop-i-preserved c =
    let v = c.loop-i.invariant in
    let y = slot_next v (omega (arith, c.loop-i-test.true, c.count_in-n.ensures.0)) c.get_message_at-next.ensures in
    laying_more v y c.put_message_at.ensures

pub returns : goal.returns
returns c =
    let n = c.count_in-n in
    let a = c.args in
    let old = present (view a.s.now) a.c in
    let e : c.loop-i.i ≡ n.result - 1 = le_antisymm c.loop-i.auto.i-end c.loop-i-test.false in
    let z = none_next old c.loop-i.i (omega (arith, e, c.if-n-eq0.false, n.ensures.0)) in
    let x = laying_more c.loop-i.invariant z (rw (← e) at c.put_message_at-2.ensures) in
    no_more x c.set_held.ensures (omega (arith, e, c.if-n-eq0.false, n.ensures.0)) (omega (arith, length-drop 1 old)) (omega (arith, length-drop 1 old, n.ensures.0))
