use mathlib.Core.Path.{◌≡◌, sym}
use Prim.Native.Nat.{◌+◌, ◌*◌, ◌-◌}
use native.Mathlib.Omega.{arith}
use borrow.Author.Tests.{ne_eqb}
use Rattle.rules.specs.Table.{queue_count}
use Rattle.table.specs.Image.{view}
use Rattle.sound.specs.Packed.{frees, frees-able, frees_seven, frees_grow, slot_count}
use Rattle.sound.proofs.queues.are_others_free.Goals as goal

pub loop-i-init : goal.loop-i-init
loop-i-init c =
    (omega arith, omega (arith, c.free_in_able.ensures, frees-able (view c.args.s.now)))

pub returns-then-m-gt-ALL_SLOTS : goal.returns-then-m-gt-ALL_SLOTS
returns-then-m-gt-ALL_SLOTS c =
    let l = c.loop-i in
    let a = c.args in
    let t = view a.s.now in
    let r : 1 + 7 * l.i + 7 + (queue_count - (1 + 7 * l.i + 7)) ≡ queue_count = omega arith in
    sym (ne_eqb (a.n + frees queue_count t) slot_count (λ e. omega (arith, e, c.if-m-gt-ALL_SLOTS.true, l.invariant.1, c.free_in_seven.ensures, frees_seven (1 + 7 * l.i) t, rw r at (frees_grow (1 + 7 * l.i + 7) (queue_count - (1 + 7 * l.i + 7)) t))))

pub loop-i-preserved : goal.loop-i-preserved
loop-i-preserved c =
    let l = c.loop-i in
    let t = view c.args.s.now in
    let e : 1 + 7 * (l.i + 1) ≡ 1 + 7 * l.i + 7 = omega arith in
    (omega arith, rw e (omega (arith, l.invariant.1, c.free_in_seven.ensures, frees_seven (1 + 7 * l.i) t)))
