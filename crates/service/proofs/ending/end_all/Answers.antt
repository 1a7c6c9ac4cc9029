use Rattle.std.proofs.Common.{ℕ, ◌+◌, ◌-◌, ◌≡◌, sym, ap, ◌∙◌, arith}
use Rattle.rules.specs.Table.{first_in}
use Rattle.rules.specs.Move.{ended, ended_all}
use Rattle.table.specs.Image.{view}
use Rattle.service.proofs.Endings.{all_none, all_more, all_end}
use Rattle.service.proofs.ending.end_all.Goals as goal

pub returns-in_default : goal.returns-in_default
returns-in_default c =
    let a = c.args in
    all_none a.outcome a.q (view c.loop.s) (32 - c.loop.counter) (sym c.in_default.ensures.front) ∙ sym c.loop.invariant

pub loop-preserved : goal.loop-preserved
loop-preserved c =
    let a = c.args in
    let l = c.loop in
    let e = c.in-Some.ensures.front in
    let more = all_more a.outcome a.q (view l.s) (32 - l.counter) (λ z. omega (arith, z, c.loop-test.true)) (λ z. omega (arith, e, z)) in
    let it : c.in-Some.w ≡ first_in a.q (view l.s) - 1 = omega (arith, e) in
    let last = c.end_wait.ensures ∙ ap (λ (i : ℕ). ended a.outcome i (view l.s)) it in
    let less : 32 - l.counter - 1 ≡ 32 - (l.counter + 1) = omega arith in
    l.invariant ∙ more ∙ ap (ended_all (32 - l.counter - 1) a.outcome a.q) (sym last) ∙ ap (λ (n : ℕ). ended_all n a.outcome a.q (view c.end_wait.new.s)) less

pub returns : goal.returns
returns c =
    let a = c.args in
    all_end a.outcome a.q (view c.loop.s) (32 - c.loop.counter) (omega arith) ∙ sym c.loop.invariant
