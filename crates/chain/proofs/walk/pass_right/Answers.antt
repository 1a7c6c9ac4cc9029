use Rattle.std.proofs.Common.{ℕ, ◌≡◌, ◌+◌, ◌-◌, sym, ap, ◌∙◌, arith}
use Rattle.rules.specs.Walk.{walk_on}
use Rattle.rules.specs.Move.{next, fresh_in, put_work}
use Rattle.table.specs.Image.{view}
use Rattle.chain.proofs.Walks.{walk-passes}
use Rattle.chain.proofs.walk.pass_right.Goals as goal

pub loop-passed-preserved : goal.loop-passed-preserved
loop-passed-preserved c =
    let t = view c.args.s.now in
    let l = c.loop-passed in
    let k = c.args.left - l.passed in
    let e = sym c.get_work.ensures ∙ c.if-get_work-p.false ∙ c.fresh_of-p.ensures in
    let on = walk-passes k l.at t (λ z. omega (arith, z, c.loop-passed-test.true)) (omega arith) e in
    let less : k - 1 ≡ c.args.left - (l.passed + 1) = omega arith in
    l.invariant
    ∙ on
    ∙ ap (λ (n : ℕ). walk_on 32 next fresh_in put_work n (next t l.at) t) less
    ∙ ap (λ (i : ℕ). walk_on 32 next fresh_in put_work (c.args.left - (l.passed + 1)) i t) (sym c.next_of-at.ensures)
