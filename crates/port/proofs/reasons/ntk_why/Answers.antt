use Rattle.std.proofs.Common.{◌≡◌, ℕ, List, sym, ap, ◌∙◌}
use Rattle.std.specs.Option.{unwrap_or}
use Rattle.table.specs.Image.{view}
use Rattle.why.specs.Tests.{reason, why_of}
use Rattle.why.specs.declared.Reason.{Reason}
use Rattle.port.specs.Why.{reason_of, reason-wrong, reason_right}
use Rattle.port.proofs.reasons.ntk_why.Goals as goal

pub returns-in_default : goal.returns-in_default
returns-in_default c =
    let e = sym (reason-wrong c.args.image.now c.in_default.ensures.cases) in
    (ap (λ (r : Reason). r.rule) e, ap (λ (r : Reason). r.number) e)

pub returns : goal.returns
returns c =
    let l = c.args.image.now in
    let whole = c.in-Some.ensures.cases in
    let e : unwrap_or c.why.result (reason 0 0) ≡ reason_of l = c.why.ensures.reason ∙ ap (λ (s : List ℕ). why_of (view s)) whole.same ∙ sym (reason_right l whole.long) in
    (c.from.ensures.0 ∙ ap (λ (r : Reason). r.rule) e, c.from.ensures.1 ∙ ap (λ (r : Reason). r.number) e)
