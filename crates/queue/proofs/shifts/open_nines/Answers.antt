use mathlib.Core.Path.{◌∙◌, refl, sym}
use Prim.Native.Nat.{◌+◌, ◌-◌}
use native.Mathlib.Omega.{arith}
use Rattle.queue.specs.Slots.{opened}
use Rattle.queue.specs.Packed.{has-packed}
use Rattle.queue.proofs.Nines.{part-nine, open_nine_stop, open_nine_on}
use Rattle.queue.proofs.Shift.{open_rest}
use Rattle.queue.proofs.shifts.open_nines.Goals as goal

pub loop-e-init : goal.loop-e-init
unfolding opened
loop-e-init c =
    record { slots = refl; out = refl }

pub overflow_add-e : goal.overflow_add-e
overflow_add-e c =
    let h = (has-packed 9 _ _ (sym c.has_nine.ensures ∙ c.loop-e-test.true)).0 in omega arith

pub slice_bounds-push_nine-start : goal.slice_bounds-push_nine-start
slice_bounds-push_nine-start c =
    let h = (has-packed 9 _ _ (sym c.has_nine.ensures ∙ c.loop-e-test.true)).0 in omega arith

pub slice_bounds-push_nine-end : goal.slice_bounds-push_nine-end
slice_bounds-push_nine-end c =
    let h = (has-packed 9 _ _ (sym c.has_nine.ensures ∙ c.loop-e-test.true)).0 in omega arith

pub push_nine-carry-requires : goal.push_nine-carry-requires
push_nine-carry-requires c =
    let l = c.loop-e in
    part-nine l.j (l.j + 9 - l.j) l.ids (has-packed 9 _ _ (sym c.has_nine.ensures ∙ c.loop-e-test.true)).0 (omega arith)

pub returns-then-carry-eq0 : goal.returns-then-carry-eq0
returns-then-carry-eq0 c =
    let l = c.loop-e in
    let f = has-packed 9 _ _ (sym c.has_nine.ensures ∙ c.loop-e-test.true) in
    open_nine_stop l.j l.ids f.0 f.1 (l.j + 9 - l.j) c.push_nine-carry.result c.push_nine-carry.new.b (omega arith) c.push_nine-carry.ensures.0 c.push_nine-carry.ensures.1 c.if-carry-eq0.true l.invariant

pub loop-e-smaller : goal.loop-e-smaller
loop-e-smaller c =
    let l = c.loop-e in
    let f = has-packed 9 _ _ (sym c.has_nine.ensures ∙ c.loop-e-test.true) in
    omega (arith, f.0, l.auto.ids)

pub loop-e-preserved : goal.loop-e-preserved
loop-e-preserved c =
    let l = c.loop-e in
    let f = has-packed 9 _ _ (sym c.has_nine.ensures ∙ c.loop-e-test.true) in
    open_nine_on l.j l.ids f.0 f.1 (l.j + 9 - l.j) c.push_nine-carry.result c.push_nine-carry.new.b (omega arith) c.push_nine-carry.ensures.0 c.push_nine-carry.ensures.1 c.if-carry-eq0.false l.invariant

pub returns : goal.returns
returns c =
    open_rest (rw c.unwrap.ensures at c.open_each.ensures) c.loop-e.invariant
