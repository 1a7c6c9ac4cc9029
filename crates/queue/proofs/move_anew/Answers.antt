use mathlib.Core.Path.{ap, sym, ◌∙◌}
use Prim.Native.Nat.{ℕ}
use Rattle.queue.specs.Slots.{closed, entered}
use Rattle.queue.specs.Slide.{packed-found}
use Rattle.queue.proofs.Outcome.{found_at, found_none, place_stands, move-unknown, move-absent, move-done}
use Rattle.queue.proofs.move_anew.Goals as goal

pub returns-then-not-is_known : goal.returns-then-not-is_known
returns-then-not-is_known c =
    move-unknown _ _ _ _ (sym c.is_known.ensures ∙ c.if-not-is_known.true)

pub returns-then-near-ids : goal.returns-then-near-ids
returns-then-near-ids c =
    let there = place_stands _ _ _ (packed-found _ _ _ c.find_packed-near.ensures c.if-near-ids.true) c.if-near-ids.true in
    let r = move-done _ _ _ _ (sym c.is_known.ensures ∙ c.if-not-is_known.false) there in
    (r.0, c.move_from.ensures ∙ r.1)

pub returns-in_default : goal.returns-in_default
returns-in_default c =
    move-absent _ _ _ _ (sym c.is_known.ensures ∙ c.if-not-is_known.false) (found_none _ _ c.in_default.ensures)

pub returns : goal.returns
returns c =
    let a = c.args in
    let f = found_at _ _ _ c.in-Some.ensures in
    let r = move-done _ _ _ _ (sym c.is_known.ensures ∙ c.if-not-is_known.false) f.0 in
    let left = c.close.ensures.1 ∙ ap (λ (n : ℕ). closed n a.ids.now) f.1 in
    (r.0, c.enter.ensures ∙ ap (entered a.ahead a.keys.now a.id) left ∙ r.1)
