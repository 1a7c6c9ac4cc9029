use mathlib.Core.Path.{◌∙◌, refl, sym}
use Prim.Native.Nat.{◌+◌, ◌-◌}
use native.Mathlib.Omega.{arith}
use Rattle.queue.specs.Slots.{closed}
use Rattle.queue.specs.Packed.{has-packed}
use Rattle.queue.proofs.Nines.{part-nine, close_nine_stop, close_nine_on}
use Rattle.std.proofs.lemmas.Bool.{false≢true}
use Rattle.queue.proofs.Shift.{close_all}
use Rattle.queue.proofs.shifts.close_nines.Goals as goal

pub loop-e-init : goal.loop-e-init
unfolding closed
loop-e-init c =
    record { slots = refl }

pub overflow_add-e : goal.overflow_add-e
overflow_add-e c =
    let h = (has-packed 9 _ _ (sym c.has_nine.ensures ∙ c.loop-e-test.true)).0 in omega arith

pub slice_bounds-pull_nine-start : goal.slice_bounds-pull_nine-start
slice_bounds-pull_nine-start c =
    let h = (has-packed 9 _ _ (sym c.has_nine.ensures ∙ c.loop-e-test.true)).0 in omega arith

pub slice_bounds-pull_nine-end : goal.slice_bounds-pull_nine-end
slice_bounds-pull_nine-end c =
    let h = (has-packed 9 _ _ (sym c.has_nine.ensures ∙ c.loop-e-test.true)).0 in omega arith

pub pull_nine-y-requires : goal.pull_nine-y-requires
pull_nine-y-requires c =
    let l = c.loop-e in
    part-nine l.j (l.j + 9 - l.j) l.ids (has-packed 9 _ _ (sym c.has_nine.ensures ∙ c.loop-e-test.true)).0 (omega arith)

pub returns-then-y-eq0 : goal.returns-then-y-eq0
returns-then-y-eq0 c =
    let l = c.loop-e in
    let f = has-packed 9 _ _ (sym c.has_nine.ensures ∙ c.loop-e-test.true) in
    close_nine_stop l.j l.ids f.0 f.1 (l.j + 9 - l.j) c.pull_nine-y.result c.pull_nine-y.new.b (omega arith) c.pull_nine-y.ensures.0 c.pull_nine-y.ensures.1 c.if-y-eq0.true l.invariant

pub overflow_add-j : goal.overflow_add-j
overflow_add-j c =
    let l = c.loop-e in
    let f = has-packed 9 _ _ (sym c.has_nine.ensures ∙ c.loop-e-test.true) in
    omega (arith, f.0, l.auto.ids)

pub loop-e-smaller : goal.loop-e-smaller
loop-e-smaller c =
    let l = c.loop-e in
    let f = has-packed 9 _ _ (sym c.has_nine.ensures ∙ c.loop-e-test.true) in
    omega (arith, f.0, l.auto.ids)

pub loop-e-preserved : goal.loop-e-preserved
loop-e-preserved c =
    let l = c.loop-e in
    let f = has-packed 9 _ _ (sym c.has_nine.ensures ∙ c.loop-e-test.true) in
    close_nine_on l.j l.ids f.0 f.1 (l.j + 9 - l.j) c.pull_nine-y.result c.pull_nine-y.new.b (omega arith) c.pull_nine-y.ensures.0 c.pull_nine-y.ensures.1 c.if-y-eq0.false l.invariant

pub returns : goal.returns
returns c =
    let e = c.close_each.ensures in
    close_all _ _ (λ t. false≢true (e.more t).0) e.left c.loop-e.invariant
