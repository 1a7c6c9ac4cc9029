use Rattle.std.proofs.Common.{rules, ◌≡◌, ◌∙◌, ◌+◌, ap, sym, arith, ℕ}
use Rattle.std.specs.Prelude.{Err}
use Rattle.rules.specs.Kinds.{widths}
use Rattle.rules.specs.Tape.{sum, body_length}
use Rattle.tape.specs.Next.{next_in, next_end, cut_next, read_next, next_call, next_none}
use Rattle.tape.specs.declared.Stop.TheVariants.{NoKind}
use Rattle.tape.proofs.read_call.Goals as goal

pub returns-in_default : goal.returns-in_default
returns-in_default c = next_end _ c.in_default.ensures.cases

pub returns-then-body-length : goal.returns-then-body-length
returns-then-body-length c =
    let some = c.in-Some in
    let t = some.ensures.cases.0 in
    cut_next some.field-0-0.now some.body.now (omega (arith, c.body_length-length.ensures, c.if-body-length.true)) ∙ ap next_in (sym t)

pub numbers_in-requires : goal.numbers_in-requires
unfolding body_length
numbers_in-requires c =
    omega (arith, ap (λ (k : ℕ). sum (widths k)) c.plain_kind.ensures, c.body_length-length.ensures, c.if-body-length.false)

pub returns-in_err-call : goal.returns-in_err-call
returns-in_err-call c =
    let some = c.in-Some in
    let t = some.ensures.cases.0 in
    let e : c.from_residual.result ≡ Err NoKind = search rules in
    e ∙ next_none c.reading_of-reading.result (1 + c.body_length-length.result) c.in_err-call.ensures.ok_part
    ∙ read_next some.field-0-0.now some.body.now _ c.plain_kind.ensures c.body_length-length.ensures c.if-body-length.false c.numbers_in.ensures c.reading_of-reading.ensures
    ∙ ap next_in (sym t)

pub returns : goal.returns
returns c =
    let some = c.in-Some in
    let t = some.ensures.cases.0 in
    next_call c.reading_of-reading.result (1 + c.body_length-length.result) c.in_ok-call.ensures.ok_part
    ∙ read_next some.field-0-0.now some.body.now _ c.plain_kind.ensures c.body_length-length.ensures c.if-body-length.false c.numbers_in.ensures c.reading_of-reading.ensures
    ∙ ap next_in (sym t)
