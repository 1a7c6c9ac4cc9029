use mathlib.Core.Path.{◌∙◌, sym}
use Rattle.queue.proofs.Outcome.{found_some, insert_unknown, insert_there, insert_full, insert_done}
use Rattle.queue.proofs.insert.Goals as goal

pub returns-then-not-is_known : goal.returns-then-not-is_known
returns-then-not-is_known c =
    insert_unknown _ _ _ (sym c.is_known.ensures ∙ c.if-not-is_known.true)

pub returns-then-is_some : goal.returns-then-is_some
returns-then-is_some c =
    insert_there _ _ _ (sym c.is_known.ensures ∙ c.if-not-is_known.false) (found_some _ _ _ c.find.ensures _ c.if-is_some.ensures)

pub returns-then-ids-free : goal.returns-then-ids-free
returns-then-ids-free c =
    insert_full _ _ _ (sym c.is_known.ensures ∙ c.if-not-is_known.false) (found_some _ _ _ c.find.ensures _ c.if-is_some.ensures) _ c.slot_of-free.ensures c.if-ids-free.true

pub returns : goal.returns
returns c =
    let r = insert_done _ _ _ (sym c.is_known.ensures ∙ c.if-not-is_known.false) (found_some _ _ _ c.find.ensures _ c.if-is_some.ensures) _ c.slot_of-free.ensures c.if-ids-free.false in
    (r.0, c.enter.ensures ∙ r.1)
