use native.Mathlib.Omega.{arith}
use Prim.Native.Nat.{◌+◌}
use Rattle.table.specs.Image.{view}
use Rattle.table.specs.Queues.{view-slots}
use Rattle.table.specs.Shape.{view-shaped}
use Rattle.sound.specs.Walks.{Passing, pass_start, pass_next, pass_stop, pass_end, pass-over}
use Rattle.sound.proofs.walk.walk_queues.Goals as goal

pub loop-q-init : goal.loop-q-init
loop-q-init c =
    (omega arith, pass_start (omega arith))

pub returns-in_err-n : goal.returns-in_err-n
returns-in_err-n c =
    let s = c.args.s.now in
    let q = c.in-Some.q in
    let p = pass-over (view-shaped s (omega arith)) c.in-Some.ensures.first.before c.loop-q.invariant.1 in
    rw c.from_residual.ensures (pass_stop p c.in-Some.ensures.there (view-slots s (omega arith) q c.in-Some.ensures.there) c.pass_queue.ensures c.in_err-n.was)

-- The queues up to the next front, and its own.
passed : (c : goal.In_ok-n) → Passing (view c.args.s.now) c.args.spots.now (c.in-Some.q + 1) c.pass_queue.new.spots (c.loop-q.n + c.in_ok-n.field-0)
passed c =
    let s = c.args.s.now in
    let q = c.in-Some.q in
    let p = pass-over (view-shaped s (omega arith)) c.in-Some.ensures.first.before c.loop-q.invariant.1 in
    pass_next p c.in-Some.ensures.there (view-slots s (omega arith) q c.in-Some.ensures.there) c.pass_queue.ensures c.in_ok-n.was

pub overflow_add-n : goal.overflow_add-n
overflow_add-n c =
    let most = (passed c).most in
    omega (arith, most, c.in-Some.ensures.there)

pub loop-q-preserved : goal.loop-q-preserved
loop-q-preserved c =
    (omega (arith, c.in-Some.ensures.there), passed c)

pub returns : goal.returns
returns c =
    pass_end (pass-over (view-shaped c.args.s.now (omega arith)) c.in_default.ensures.first.before c.loop-q.invariant.1)
