use Rattle.std.proofs.Common.{◌≡◌, ◌-◌}
use Rattle.table.specs.Image.{view}
use Rattle.why.specs.Tests.{is_kept, least, first_at, record_end}
use Rattle.why.proofs.first_at.Given as goal

abbrev pub invariant-loop-i : goal.invariant-loop-i
invariant-loop-i l = first_at l.rule (view l.s) ≡ least (record_end l.rule - l.i) l.i (λ j. is_kept l.rule j (view l.s))
