use mathlib.Core.Path.{refl}
use native.Mathlib.Omega.{arith}
use Rattle.queue.specs.Slots.{opened}
use Rattle.queue.proofs.Shift.{open_more, open_free, open_end, open_at, at_few}
use Rattle.queue.proofs.shifts.open_each.Goals as goal

pub loop-j-init : goal.loop-j-init
unfolding opened
loop-j-init c =
    record { slots = refl; out = refl }

pub returns-then-y-eq0 : goal.returns-then-y-eq0
returns-then-y-eq0 c =
    open_free (omega arith) c.if-y-eq0.true c.loop-j.invariant

pub returns-then-few-j : goal.returns-then-few-j
returns-then-few-j c =
    let t = at_few c.args.few _ _ _ (omega arith) c.if-few-j.true in
    let r = open_at _ t.1 (open_more (omega arith) c.if-y-eq0.false c.loop-j.invariant) in
    (t.0, omega (arith, t.1), r.0, r.1)

pub loop-j-preserved : goal.loop-j-preserved
loop-j-preserved c =
    open_more (omega arith) c.if-y-eq0.false c.loop-j.invariant

pub returns : goal.returns
returns c =
    open_end (omega arith) c.loop-j.invariant
