use Rattle.std.proofs.Common.{refl, sym, ◌∙◌, arith}
use Rattle.table.specs.Image.{view}
use Rattle.why.specs.Tests.{is_kept}
use Rattle.why.specs.Least.{first_start, least_next, least_stop, least_end, some_found, none_found}
use Rattle.why.proofs.first_at.Goals as goal

pub loop-i-init : goal.loop-i-init
loop-i-init c =
    let a = c.args in first_start a.rule (view a.s.now) refl

pub returns-then-not-is_kept : goal.returns-then-not-is_kept
returns-then-not-is_kept c =
    let l = c.loop-i in
    let a = c.args in
    some_found a.rule (view a.s.now) (omega arith) (l.invariant ∙ least_stop (λ j. is_kept a.rule j (view a.s.now)) _ l.i (omega arith) (sym c.is_kept.ensures ∙ c.if-not-is_kept.true))

pub loop-i-preserved : goal.loop-i-preserved
loop-i-preserved c =
    let l = c.loop-i in
    let a = c.args in
    l.invariant ∙ least_next (λ j. is_kept a.rule j (view a.s.now)) _ l.i (omega arith) (sym c.is_kept.ensures ∙ c.if-not-is_kept.false)

pub returns : goal.returns
returns c =
    let l = c.loop-i in
    let a = c.args in
    none_found a.rule (view a.s.now) (omega arith) (l.invariant ∙ least_end (λ j. is_kept a.rule j (view a.s.now)) _ l.i (omega arith))
