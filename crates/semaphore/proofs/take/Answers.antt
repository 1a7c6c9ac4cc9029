use mathlib.Core.Path.{refl}
use Prim.Native.Nat.{◌<◌}
use native.Mathlib.Omega.{arith}
use borrow.Author.Tests.{lt-ltb}
use Rattle.rules.specs.Semaphore.{wait}
use Rattle.service.specs.Serving.{served}
use Rattle.semaphore.proofs.take.Goals as goal

pub returns-then-count-eq0 : goal.returns-then-count-eq0
unfolding wait
returns-then-count-eq0 c =
    rw (← c.get_count-count.ensures, c.if-count-eq0.true) c.wait_on.ensures

pub returns : goal.returns
unfolding wait
returns c =
    let more : 0 < c.get_count-count.result = omega arith in
    let some = rw c.get_count-count.ensures at (lt-ltb _ _ more) in
    served (rw some) refl (rw some (cc))
