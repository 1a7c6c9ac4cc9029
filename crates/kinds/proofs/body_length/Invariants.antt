use Rattle.std.proofs.Common.{◌≡◌, ◌+◌, ◌-◌}
use Rattle.kinds.specs.Row.{digit_sum}
use Rattle.rules.specs.Tape.{body_length}
use Rattle.kinds.proofs.body_length.Given as goal

abbrev pub invariant-loop : goal.invariant-loop
invariant-loop l = l.length + digit_sum (6 - l.counter) l.left ≡ body_length l.kind
