use mathlib.Core.Path.{refl, ap, sym, ◌∙◌}
use mathlib.Core.List.{List}
use Prim.Native.Nat.{ℕ, ◌+◌, ◌-◌}
use lib.ListN.{length}
use native.Mathlib.Omega.{arith}
use Rattle.queue.specs.Slots.{from, place_from, limit}
use Rattle.queue.specs.Slide.{lifted_past}
use Rattle.queue.proofs.Place.{place_front, place_rest}
use Rattle.queue.proofs.slides.place_without.Goals as goal

pub returns-then-ids-at : goal.returns-then-ids-at
returns-then-ids-at c =
    let a = c.args in
    c.place_at.ensures ∙ ap (place_from a.keys.now (limit a.ahead a.key)) (sym (lifted_past a.at a.ids.now c.if-ids-at.true))

pub returns-then-front-at : goal.returns-then-front-at
returns-then-front-at c =
    let a = c.args in
    place_front (from a.keys.now (limit a.ahead a.key)) a.ids.now a.at (omega arith) (a.at - 0) (omega arith) _ c.place_at-front.ensures c.if-front-at.true

pub overflow_add-result : goal.overflow_add-result
overflow_add-result c =
    let a = c.args in
    let l : List ℕ = a.ids.now in
    let r =
    place_rest (from a.keys.now (limit a.ahead a.key)) l a.at (omega arith) (a.at - 0) (omega arith) _ _ (length l - (a.at + 1)) c.place_at-front.ensures c.if-front-at.false refl
    c.place_at-rest.ensures in
    omega (arith, r.1)

pub returns : goal.returns
returns c =
    let a = c.args in
    let l : List ℕ = a.ids.now in
    let r =
    place_rest (from a.keys.now (limit a.ahead a.key)) l a.at (omega arith) (a.at - 0) (omega arith) _ _ (length l - (a.at + 1)) c.place_at-front.ensures c.if-front-at.false refl
    c.place_at-rest.ensures in
    r.0
