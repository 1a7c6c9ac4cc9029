use Rattle.std.proofs.Common.{◌≡◌, ◌-◌}
use Rattle.rules.specs.Move.{ended_all}
use Rattle.table.specs.Image.{view}
use Rattle.service.proofs.ending.end_all.Given as goal

abbrev pub invariant-loop : goal.invariant-loop
invariant-loop l = ended_all 32 l.outcome l.q (view l.initial.s) ≡ ended_all (32 - l.counter) l.outcome l.q (view l.s)
