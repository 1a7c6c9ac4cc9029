use Rattle.std.proofs.Common.{rules, ◌≡◌, ◌≤◌, ap, arith, ℕ, ◌+◌, ◌-◌, ◌%◌}
use Rattle.kinds.specs.Row.{digit_sum, digit_next, body_digits, body_short}
use Rattle.kinds.proofs.body_length.Goals as goal

pub loop-init : goal.loop-init
loop-init c = omega (arith, body_digits c.args.kind c.widths_of-left.result c.plain_kind.ensures c.widths_of-left.ensures)

pub overflow_add-length : goal.overflow_add-length
overflow_add-length c =
    let small : c.loop.length + c.loop.left % 16 ≤ 105 = omega (arith, c.loop.invariant, body_short c.args.kind) in
    search (rules, small)

pub loop-preserved : goal.loop-preserved
loop-preserved c = omega (arith, c.loop.invariant, digit_next 6 c.loop.left c.loop.counter c.loop-test.true)

pub returns : goal.returns
unfolding digit_sum
returns c =
    let last : 6 - c.loop.counter ≡ 0 = omega (arith, c.loop-test.false) in
    let none : digit_sum (6 - c.loop.counter) c.loop.left ≡ 0 = ap (λ (n : ℕ). digit_sum n c.loop.left) last in
    omega (arith, none, c.loop.invariant)
