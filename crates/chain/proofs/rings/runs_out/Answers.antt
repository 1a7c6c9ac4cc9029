use Rattle.std.proofs.Common.{ℕ, ◌≡◌, ◌+◌, ◌-◌, leb, sym, ap, ◌∙◌, arith}
use borrow.Author.Tests.{le-leb}
use Rattle.rules.specs.Chain.{after}
use Rattle.rules.specs.Afresh.{stays_out}
use Rattle.rules.specs.Move.{next}
use Rattle.laws.specs.chains.Graph.{ends-sized}
use Rattle.laws.specs.local.Walk.{most}
use Rattle.table.specs.Image.{view}
use Rattle.table.specs.Shape.{view-shaped}
use Rattle.chain.specs.Rings.{after_none, after_on}
use Rattle.chain.proofs.rings.runs_out.Goals as goal

pub returns-then-at-ge-TASKS : goal.returns-then-at-ge-TASKS
returns-then-at-ge-TASKS c =
    let l = c.loop in
    let t = view c.args.s.now in
    let out = stays_out (ends-sized t (view-shaped c.args.s.now (omega arith)).tasks) (most - l.counter) c.if-at-ge-TASKS.true in
    sym (ap (leb 32) l.invariant ∙ le-leb 32 (after (next t) (most - l.counter) l.at) out)

pub loop-preserved : goal.loop-preserved
loop-preserved c =
    let t = view c.args.s.now in
    let l = c.loop in
    let less : most - l.counter - 1 ≡ most - (l.counter + 1) = omega arith in
    l.invariant
    ∙ after_on (next t) (most - l.counter) l.at (λ z. omega (arith, z, c.loop-test.true))
    ∙ ap (λ (k : ℕ). after (next t) k (next t l.at)) less
    ∙ ap (after (next t) (most - (l.counter + 1))) (sym c.next_of-at.ensures)

pub returns : goal.returns
returns c =
    let t = view c.args.s.now in
    let l = c.loop in
    ap (leb 32) (sym (l.invariant ∙ after_none (next t) (most - l.counter) l.at (omega (arith, c.loop-test.false))))
