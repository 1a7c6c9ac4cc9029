use Rattle.std.proofs.Common.{◌≡◌, false}
use Rattle.rules.specs.Task.{holds_below}
use Rattle.table.specs.Image.{view}
use Rattle.task.proofs.holds_any.Given as goal

abbrev pub invariant-loop-m : goal.invariant-loop-m
invariant-loop-m l = holds_below l.m l.i (view l.s) ≡ false
