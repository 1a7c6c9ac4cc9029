use mathlib.Core.Path.{sym}
use mathlib.Core.List.{[], ◌∷◌}
use native.Mathlib.Omega.{arith}
use lib.ListN.{length-append}
use lib.Seq.{get_or_at}
use Rattle.rules.specs.Messages.{present}
use Rattle.table.specs.Image.{view}
use Rattle.table.specs.Shape.{view-shaped}
use Rattle.table.proofs.Laid.{laying_present, laying_more, one_more}
use Rattle.table.proofs.messages.add_last.Goals as goal

pub returns : goal.returns
returns c =
    let n = c.count_in-n in
    let a = c.args in
    let old = present (view a.s.now) a.c in
    let x = laying_more (laying_present c.requires (view-shaped a.s.now (omega arith)) n.result n.ensures.0 (a.v ∷ [])) (sym (get_or_at old a.v [] 0 n.result (sym n.ensures.0))) c.put_slot.ensures in
    one_more x c.set_held.ensures (omega (arith, n.ensures.0)) (length-append old (a.v ∷ [])) (omega (arith, n.ensures.0))
