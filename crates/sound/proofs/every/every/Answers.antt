use Rattle.sound.specs.Tests.{each_none, each_and}
use Rattle.sound.proofs.every.every.Goals as goal

pub loop-i-init : goal.loop-i-init
loop-i-init g c = λ p t. each_none p

pub loop-i-preserved : goal.loop-i-preserved
loop-i-preserved g c =
    λ p t. each_and p c.loop-i.i (t c.loop-i.i c.test-all.result c.loop-i-test.true c.test-all.ensures) (c.loop-i.invariant p t)
