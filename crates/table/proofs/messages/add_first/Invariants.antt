use Rattle.std.specs.Prelude.{◌≡◌, ◌∷◌, get_or}
use Rattle.rules.specs.Messages.{present}
use Rattle.table.specs.Image.{view}
use Rattle.table.proofs.Laid.{Laying}
use Rattle.table.proofs.messages.add_first.Given as goal

abbrev pub invariant-loop-i : goal.invariant-loop-i
invariant-loop-i l = (l.carry ≡ get_or (l.v ∷ present (view l.initial.s) l.c) l.i 0) × Laying l.c l.i (l.v ∷ present (view l.initial.s) l.c) (view l.initial.s) (view l.s)
