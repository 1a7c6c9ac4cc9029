use mathlib.Core.Path.{sym, ◌∙◌, ap}
use Prim.Native.Nat.{ℕ}
use Rattle.queue.specs.Slots.{closed}
use Rattle.queue.proofs.Outcome.{front_there, found_at, found_none, remove_there, remove_absent}
use Rattle.queue.proofs.remove.Goals as goal

pub returns-then-slot_or_free-id : goal.returns-then-slot_or_free-id
returns-then-slot_or_free-id c =
    let a = c.args in
    let f = front_there a.id a.ids.now (sym c.slot_or_free.ensures ∙ c.if-slot_or_free-id.true) in
    (remove_there _ _ f.1, c.close_front.ensures ∙ ap (λ (n : ℕ). closed n a.ids.now) f.0)

pub returns-in_default : goal.returns-in_default
returns-in_default c =
    remove_absent _ _ (found_none _ _ c.in_default.ensures)

pub returns : goal.returns
returns c =
    let a = c.args in
    let f = found_at _ _ _ c.in-Some.ensures in
    (remove_there _ _ f.0, c.close_up.ensures ∙ ap (λ (n : ℕ). closed n a.ids.now) f.1)
