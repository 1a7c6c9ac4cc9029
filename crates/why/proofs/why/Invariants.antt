use Rattle.std.proofs.Common.{◌≡◌, ◌-◌}
use Rattle.table.specs.Image.{view}
use Rattle.why.specs.Tests.{rule_end, why_from, why_of}
use Rattle.why.proofs.why.Given as goal

abbrev pub invariant-loop-rule : goal.invariant-loop-rule
invariant-loop-rule l = why_of (view l.s) ≡ why_from (rule_end - l.rule) l.rule (view l.s)
