use mathlib.Core.Path.{◌≡◌, refl, sym, ap, ◌∙◌}
use Prim.Native.Nat.{ℕ}
use native.Mathlib.Omega.{arith}
use Rattle.queue.specs.Slots.{place_of}
use Rattle.rules.specs.Table.{Table, able_queue, queue_of, with_ready}
use Rattle.table.specs.Image.{view}
use Rattle.table.specs.Ready.{word_left, left_able}
use Rattle.table.proofs.Places.{leaves, closed-queue}
use Rattle.table.proofs.moves.leave_from.Goals as goal

pub returns : goal.returns
returns c =
    let a = c.args in
    let t = view a.s.now in
    let u = c.drop_at.new.s in
    let word : view u ≡ with_ready (word_left able_queue a.i t) t = c.drop_at.ensures ∙ ap (λ (w : ℕ). with_ready w t) (sym (left_able able_queue a.i t refl)) in
    let place : a.at ≡ place_of a.i (queue_of (view u) able_queue) = c.requires.2 ∙ ap (λ (y : Table). place_of a.i (queue_of y able_queue)) (sym c.drop_at.ensures) in
    leaves able_queue a.i t _ _ (omega arith) word (closed-queue u able_queue a.i c.close.new.ids (omega arith) (omega arith) a.at place c.close.ensures.1)
