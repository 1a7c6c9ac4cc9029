use Rattle.std.proofs.Common.{rules, ◌≡◌, ◌≤◌, ◌+◌, ◌-◌, refl, sym, subst, arith, length, length-drop, ℕ}
use Rattle.player.proofs.Parts.{Going, rest_turn, going_from, going_on, going_stops, going_over, gone-within}
use Rattle.player.proofs.play_part.Goals as goal

pub loop-init : goal.loop-init
loop-init c = (refl, refl, omega arith, omega arith, going_from _ _ _)

pub overflow_add-read : goal.overflow_add-read
overflow_add-read c =
    let i = c.loop.invariant in
    let w = gone-within (rest_turn _ c.args.tape.now _ c.loop.read _ _ _ _ c.play_one.ensures c.in-Ok.is) in
    let k : c.loop.read + c.in-Ok.went.read ≤ length c.args.tape.now = omega (arith, w.0, i.2, length-drop c.loop.read c.args.tape.now) in
    search (rules, k)

pub loop-preserved : goal.loop-preserved
loop-preserved c =
    let i = c.loop.invariant in
    let t = rest_turn _ c.args.tape.now _ c.loop.read _ _ _ _ c.play_one.ensures c.in-Ok.is in
    let w = gone-within t in
    let same : length c.play_one.new.out ≡ length c.loop.out = search rules in
    let left : length c.args.tape.now - c.loop.counter - 1 ≡ length c.args.tape.now - (c.loop.counter + 1) = omega arith in (
      search rules,
      search rules,
      omega (arith, w.0, i.2, length-drop c.loop.read c.args.tape.now),
      subst (λ n. c.in-Ok.went.end ≤ n) (sym same) w.1,
      subst (λ (n : ℕ). Going c.args.image.now c.args.tape.now c.args.out.now c.play_one.new.image c.play_one.new.out (c.loop.read + c.in-Ok.went.read) c.in-Ok.went.end n) left
          (going_on i.4 i.3 same (omega (arith, c.loop-test.true)) t),
    )

pub returns : goal.returns
returns c = let i = c.loop.invariant in going_over i.4 i.2 i.3 (omega (arith, c.loop-test.false))

pub returns-in-Err : goal.returns-in-Err
returns-in-Err c =
    let i = c.loop.invariant in
    rw c.ends.ensures
    (going_stops i.4 i.2 i.3 (omega (arith, c.loop-test.true)) (rest_turn _ c.args.tape.now _ c.loop.read _ _ _ _ c.play_one.ensures c.in-Err.is))
