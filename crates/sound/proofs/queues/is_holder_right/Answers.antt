use mathlib.Core.Path.{◌≡◌, sym, ◌∙◌}
use Prim.Native.Nat.{◌-◌}
use native.Mathlib.Omega.{arith}
use Rattle.rules.specs.Table.{mutex_of}
use Rattle.table.specs.Image.{view}
use Rattle.table.specs.Shape.{view-shaped}
use Rattle.sound.specs.Waits.{unheld, held_past, held-within}
use Rattle.sound.proofs.queues.is_holder_right.Goals as goal

pub returns-then-h-eq0 : goal.returns-then-h-eq0
returns-then-h-eq0 c =
    let a = c.args in
    unheld (view a.s.now) a.m (sym c.get_holder-h.ensures ∙ c.if-h-eq0.true)

pub returns-then-h-gt32 : goal.returns-then-h-gt32
returns-then-h-gt32 c =
    let a = c.args in
    held_past (view a.s.now) a.m (view-shaped a.s.now (omega arith)) (omega (arith, c.get_holder-h.ensures))

pub returns : goal.returns
returns c =
    let a = c.args in
    let t = view a.s.now in
    let n : (mutex_of t a.m).holder ≡ 0 → ⊥ = λ z. c.if-h-eq0.false (c.get_holder-h.ensures ∙ z) in
    cc (held-within t a.m n, c.requires.1.at (c.get_holder-h.result - 1) (omega arith))
