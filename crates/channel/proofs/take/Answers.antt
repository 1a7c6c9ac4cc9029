use mathlib.Core.Path.{refl}
use Prim.Native.Nat.{◌<◌}
use native.Mathlib.Omega.{arith}
use borrow.Author.Tests.{lt-ltb}
use Rattle.rules.specs.Channel.{wait}
use Rattle.service.specs.Serving.{served}
use Rattle.channel.proofs.take.Goals as goal

pub returns-then-get_held-eq0 : goal.returns-then-get_held-eq0
unfolding wait
returns-then-get_held-eq0 c =
    rw (← c.get_held.ensures, c.if-get_held-eq0.true) c.wait_on.ensures

pub returns : goal.returns
unfolding wait
returns c =
    let more : 0 < c.get_held.result = omega arith in
    let some = rw c.get_held.ensures at (lt-ltb _ _ more) in
    served (rw some) refl (rw some (cc c.caller_of-caller.ensures.0))
