use Rattle.std.specs.Prelude.{refl, []}
use Rattle.std.proofs.Common.{arith}
use Rattle.table.specs.Shape.{view-shaped}
use Rattle.table.proofs.Laid.{laying_none, laying_more, no_more}
use Rattle.table.proofs.messages.clear.Goals as goal

pub loop-i-init : goal.loop-i-init
loop-i-init c =
    laying_none c.requires (view-shaped c.args.s.now (omega arith)) []

pub loop-i-preserved : goal.loop-i-preserved
loop-i-preserved c =
    laying_more c.loop-i.invariant refl c.empty_slot.ensures

pub returns : goal.returns
returns c =
    no_more c.loop-i.invariant c.set_held.ensures (omega (arith, c.loop-i.auto.i-end, c.count_in-n.ensures.0)) (omega arith) refl
