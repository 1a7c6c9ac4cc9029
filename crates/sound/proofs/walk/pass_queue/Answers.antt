use mathlib.Core.Path.{sym, ◌∙◌}
use Rattle.table.specs.Image.{view}
use Rattle.sound.specs.Walks.{pass-empty, pass-refused, pass_on}
use Rattle.sound.proofs.walk.pass_queue.Goals as goal

pub returns-then-slot_in-eq0 : goal.returns-then-slot_in-eq0
returns-then-slot_in-eq0 c =
    let a = c.args in
    pass-empty (view a.s.now) a.q (sym c.slot_in.ensures ∙ c.if-slot_in-eq0.true)

pub returns-then-not-is_awaited : goal.returns-then-not-is_awaited
returns-then-not-is_awaited c =
    let a = c.args in
    pass-refused (view a.s.now) a.q _ (λ z. c.if-slot_in-eq0.false (c.slot_in.ensures ∙ z)) (sym c.is_awaited.ensures ∙ c.if-not-is_awaited.true)

pub returns : goal.returns
returns c =
    let a = c.args in
    pass_on (view a.s.now) a.q (λ z. c.if-slot_in-eq0.false (c.slot_in.ensures ∙ z)) (sym c.is_awaited.ensures ∙ c.if-not-is_awaited.false) c.walk_queue.ensures
