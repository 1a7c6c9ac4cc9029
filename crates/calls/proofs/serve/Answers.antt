use mathlib.Core.Path.{subst}
use Prim.Native.Nat.{ℕ}
use Rattle.rules.specs.Step.{effect, told_by}
use Rattle.table.specs.Image.{view}
use Rattle.service.specs.Told.{Told}
use Rattle.calls.proofs.Ends.{barred, allowed}
use Rattle.calls.proofs.serve.Goals as goal

pub returns-then-interrupt-may : goal.returns-then-interrupt-may
returns-then-interrupt-may c =
    barred _ _ _ _ c.is_for_interrupts-may.ensures c.if-interrupt-may.true

pub returns : goal.returns
returns c =
    let a = c.args in
    let t = view a.s.now in
    subst (λ (n : ℕ). Told n (effect a.c t) (told_by a.c t) c.serve_task.result a.s.now c.serve_task.new.s)
    (allowed a.c a.interrupt _ t c.is_for_interrupts-may.ensures c.if-interrupt-may.false)
    c.serve_task.ensures
