use Rattle.std.proofs.Common.{◌≡◌, ℕ, refl, sym, ap, ◌∙◌, arith}
use Rattle.table.specs.Image.{view}
use Rattle.table.specs.Shape.{view-shaped}
use Rattle.why.specs.Tests.{rule_end, why_of, reason}
use Rattle.why.specs.Least.{end_most, why_start, why_next, why_stop, why_end, found_some, found_none}
use Rattle.why.specs.Explained.{none_sound, some_unsound}
use Rattle.why.proofs.why.Goals as goal

pub loop-rule-init : goal.loop-rule-init
loop-rule-init c =
    why_start _

pub overflow_cast-result : goal.overflow_cast-result
overflow_cast-result c =
    omega (arith, (found_some c.loop-rule.rule (view c.args.s.now) (sym c.first_at.ensures ∙ c.in-Some.is)).0, end_most c.loop-rule.rule)

-- Where a record breaks the rule, it is the reason.
reason_is : (c : goal.In-Some) → why_of (view c.args.s.now) ≡ reason c.loop-rule.rule c.in-Some.i
reason_is c =
    let l = c.loop-rule in
    let t = view c.args.s.now in
    let (h, e) = found_some l.rule t (sym c.first_at.ensures ∙ c.in-Some.is) in
    l.invariant ∙ why_stop t rule_end l.rule (omega arith) (omega arith) ∙ ap (λ (i : ℕ). reason l.rule i) e

pub returns-in-Some-clause-reason : goal.returns-in-Some-clause-reason
returns-in-Some-clause-reason c =
    sym (reason_is c)

pub returns-in-Some-clause-none : goal.returns-in-Some-clause-none
returns-in-Some-clause-none c =
    ((λ e. absurd (cc)), λ s. absurd (some_unsound (view-shaped c.args.s.now (omega arith)) (reason_is c) (sym c.first_at.ensures ∙ c.in-Some.is) s))

pub loop-rule-preserved : goal.loop-rule-preserved
loop-rule-preserved c =
    let l = c.loop-rule in
    let t = view c.args.s.now in
    l.invariant ∙ why_next t rule_end l.rule (omega arith) (found_none l.rule t (sym c.first_at.ensures ∙ c.in_default.is))

-- Where none does, there is no reason.
none_is : (c : goal.After-loop-rule) → why_of (view c.args.s.now) ≡ reason 0 0
none_is c =
    let l = c.loop-rule in l.invariant ∙ why_end (view c.args.s.now) rule_end l.rule (omega arith)

pub returns-clause-reason : goal.returns-clause-reason
returns-clause-reason c =
    sym (none_is c)

pub returns-clause-none : goal.returns-clause-none
returns-clause-none c =
    ((λ e. none_sound (view-shaped c.args.s.now (omega arith)) (none_is c)), λ s. refl)
