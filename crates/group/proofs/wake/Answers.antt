use mathlib.Core.Path.{◌≡◌, refl, sym, ap, ◌∙◌}
use Prim.Native.Nat.{◌+◌, ◌-◌, ◌≤◌}
use native.Mathlib.Omega.{arith}
use Rattle.rules.specs.Table.{Asked}
use Rattle.rules.specs.Group.{is_met, consumed, woken}
use Rattle.table.specs.Image.{view}
use Rattle.group.proofs.Laws.{woken_end, woken-over, woken_wakes, woken-waits}
use Rattle.group.proofs.wake.Goals.{then-is_met, else-is_met}
use Rattle.group.proofs.wake.Goals as goal

pub returns-then-v-eq0 : goal.returns-then-v-eq0
returns-then-v-eq0 c =
    let a = c.args in
    let l = c.loop in
    c.set_flags.ensures ∙ sym (woken-over a.i a.flags l.k l.together (view l.s) (32 - l.counter) c.slot_in-v.ensures c.if-v-eq0.true) ∙ sym l.invariant.1

pub loop-preserved : goal.loop-preserved
loop-preserved c =
    let a = c.args in
    let l = c.loop in
    let t = view l.s in
    let v = c.slot_in-v.result in
    let more : 32 - l.counter ≡ 0 → ⊥ = λ z. omega (arith, z, c.loop-test.true) in
    let less : 32 - l.counter - 1 ≡ 32 - (l.counter + 1) = omega arith in
    let asked = c.asked_by-asked.ensures in
    let met = c.is_met.ensures ∙ ap (λ (x : Asked). is_met a.flags x) asked in
    elim c.if-is_met.branch [
      | then-is_met w ↦ (
        omega (arith, w.k-is, l.invariant.0),
        rw (w.s-is, w.k-is, w.together-is, ← less)
            (l.invariant.1 ∙ woken_wakes a.i a.flags l.k l.together t (32 - l.counter) c.slot_in-v.ensures more c.if-v-eq0.false met w.if-is_met.true (w.consumed-together.ensures ∙ ap (λ (x : Asked). consumed a.flags x) asked) w.end_wait.ensures),
      )
      | else-is_met w ↦ (
        omega (arith, w.k-is, l.invariant.0),
        rw (w.s-is, w.k-is, w.together-is, ← less)
            (l.invariant.1 ∙ woken-waits a.i a.flags l.k l.together t (32 - l.counter) c.slot_in-v.ensures more c.if-v-eq0.false met w.if-is_met.false),
      )
    ]

pub returns : goal.returns
returns c =
    let a = c.args in
    let l = c.loop in
    c.set_flags-2.ensures ∙ sym (woken_end a.i a.flags l.k l.together (view l.s) (32 - l.counter) (omega (arith, c.loop-test.false))) ∙ sym l.invariant.1
