use mathlib.Core.Path.{sym, ◌∙◌}
use native.Mathlib.Omega.{arith}
use Rattle.table.specs.Image.{view}
use Rattle.table.proofs.Words.{first_found}
use Rattle.table.proofs.moves.leave_able.Goals as goal

pub leave_from-requires : goal.leave_from-requires
leave_from-requires c =
    let a = c.args in
    (omega arith, omega arith, first_found a.i (view a.s.now) (sym c.slot_in.ensures ∙ c.if-slot_in-i.true))
