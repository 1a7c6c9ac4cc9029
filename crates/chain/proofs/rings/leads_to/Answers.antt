use Rattle.std.proofs.Common.{ℕ, ◌≡◌, ◌+◌, ◌-◌, sym, ap, ◌∙◌, arith}
use Rattle.rules.specs.Chain.{leads}
use Rattle.rules.specs.Move.{next}
use Rattle.table.specs.Image.{view}
use Rattle.chain.specs.Rings.{leads_none, leads_here, leads_past, leads_on}
use Rattle.chain.proofs.rings.leads_to.Goals as goal

pub returns-then-at-c : goal.returns-then-at-c
returns-then-at-c c =
    let a = c.args in
    let l = c.loop in
    sym (l.invariant ∙ leads_here 32 (next (view a.s.now)) a.c (32 - l.counter) l.at (λ z. omega (arith, z, c.loop-test.true)) c.if-at-c.true)

pub returns-then-at-ge-TASKS : goal.returns-then-at-ge-TASKS
returns-then-at-ge-TASKS c =
    let a = c.args in
    let l = c.loop in
    sym (l.invariant ∙ leads_past 32 (next (view a.s.now)) a.c (32 - l.counter) l.at c.if-at-c.false c.if-at-ge-TASKS.true)

pub loop-preserved : goal.loop-preserved
loop-preserved c =
    let a = c.args in
    let l = c.loop in
    let n = next (view a.s.now) in
    let less : 32 - l.counter - 1 ≡ 32 - (l.counter + 1) = omega arith in
    l.invariant
    ∙ leads_on 32 n a.c (32 - l.counter) l.at (λ z. omega (arith, z, c.loop-test.true)) c.if-at-c.false c.if-at-ge-TASKS.false
    ∙ ap (λ (k : ℕ). leads 32 n k (n l.at) a.c) less
    ∙ ap (λ (j : ℕ). leads 32 n (32 - (l.counter + 1)) j a.c) (sym c.next_of-at.ensures)

pub returns : goal.returns
returns c =
    let a = c.args in
    let l = c.loop in
    sym (l.invariant ∙ leads_none 32 (next (view a.s.now)) a.c (32 - l.counter) l.at (omega (arith, c.loop-test.false)))
