use Rattle.std.proofs.Common.{◌≡◌}
use Rattle.table.specs.Image.{view}
use Rattle.chain.specs.Local.{firsts_below}
use Rattle.chain.proofs.local.local_of.Given as goal

abbrev pub invariant-loop-m : goal.invariant-loop-m
invariant-loop-m l = l.best ≡ firsts_below (view l.s) l.i l.m
