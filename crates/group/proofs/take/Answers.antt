use mathlib.Core.Path.{refl, ap, ◌∙◌}
use Rattle.rules.specs.Move.{chosen}
use Rattle.rules.specs.Object.{taken}
use Rattle.table.specs.Image.{view}
use Rattle.service.specs.Serving.{served, told}
use Rattle.object.specs.Asking.{asked_in}
use Rattle.group.proofs.Laws.{takes-answer, takes, blocks-answer, blocks}
use Rattle.group.proofs.take.Goals as goal

pub returns-then-not-is_met : goal.returns-then-not-is_met
returns-then-not-is_met c =
    let a = c.args in
    let x = asked_in a.asked in
    let t = view a.s.now in
    told (blocks-answer a.i a.limit t x c.get_flags-flags.ensures c.is_met.ensures c.if-not-is_met.true refl) (ap chosen (blocks a.i a.limit t x c.get_flags-flags.ensures c.is_met.ensures c.if-not-is_met.true)) c.wait_on.ensures

pub returns : goal.returns
returns c =
    let a = c.args in
    let x = asked_in a.asked in
    let t = view a.s.now in
    served (takes-answer a.i a.limit t x c.get_flags-flags.ensures c.is_met.ensures c.if-not-is_met.false _) refl
    (c.choose.ensures
    ∙ ap chosen (c.take_now.ensures ∙ ap taken c.set_flags.ensures ∙ takes a.i a.limit t x c.get_flags-flags.ensures c.is_met.ensures c.if-not-is_met.false c.consumed.ensures))
