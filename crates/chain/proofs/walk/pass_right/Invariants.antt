use Rattle.std.proofs.Common.{◌≡◌, ◌-◌}
use Rattle.rules.specs.Walk.{walk_on}
use Rattle.rules.specs.Move.{next, fresh_in, put_work}
use Rattle.table.specs.Image.{view}
use Rattle.chain.proofs.walk.pass_right.Given as goal

abbrev pub invariant-loop-passed : goal.invariant-loop-passed
invariant-loop-passed l = walk_on 32 next fresh_in put_work l.left l.i (view l.s) ≡ walk_on 32 next fresh_in put_work (l.left - l.passed) l.at (view l.s)
