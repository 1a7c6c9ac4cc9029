use mathlib.Core.Path.{refl}
use native.Mathlib.Omega.{arith}
use Rattle.queue.specs.Slots.{closed}
use Rattle.queue.proofs.Shift.{close_more, close_free, close_end, close_at, at_few}
use Rattle.queue.proofs.shifts.close_each.Goals as goal

pub loop-j-init : goal.loop-j-init
unfolding closed
loop-j-init c =
    record { slots = refl }

pub returns-then-few-j-clause-more : goal.returns-then-few-j-clause-more
returns-then-few-j-clause-more c =
    let t = at_few c.args.few _ _ _ (omega arith) c.if-few-j.true in
    λ e. (t.0, omega (arith, t.1))

pub returns-then-few-j-clause-left : goal.returns-then-few-j-clause-left
returns-then-few-j-clause-left c =
    close_at _ (at_few c.args.few _ _ _ (omega arith) c.if-few-j.true).1 (close_more _ c.slot_or_free-y.ensures (omega arith) c.if-y-eq0.false c.loop-j.invariant)

pub returns-then-y-eq0-clause-left : goal.returns-then-y-eq0-clause-left
returns-then-y-eq0-clause-left c =
    close_free _ c.slot_or_free-y.ensures (omega arith) c.if-y-eq0.true c.loop-j.invariant

pub loop-j-preserved : goal.loop-j-preserved
loop-j-preserved c =
    close_more _ c.slot_or_free-y.ensures (omega arith) c.if-y-eq0.false c.loop-j.invariant

pub returns-clause-left : goal.returns-clause-left
returns-clause-left c =
    close_end (omega arith) c.loop-j.invariant
