use Rattle.std.proofs.Common.{rules, ◌≡◌, sym, ap, subst, ◌∙◌, arith}
use Rattle.std.specs.Prelude.{Err}
use Rattle.player.specs.Part.{Turn, Turned, taken_by}
use Rattle.player.specs.declared.Halt.TheVariants.{NoCall}
use Rattle.player.proofs.Turns.{full_turn, idle_turn, call_turn}
use Rattle.player.proofs.play_one.Goals as goal

pub returns-then-out-end-lt6 : goal.returns-then-out-end-lt6
returns-then-out-end-lt6 c = full_turn _ _ _ _ c.if-out-end-lt6.true

pub returns-in_err-whole : goal.returns-in_err-whole
unfolding taken_by
returns-in_err-whole c =
    let a = c.args in
    let e : c.from_residual.result ≡ Err (NoCall c.in_err-whole.field-0.0) = search rules in
    subst (λ (r : Turn). Turned a.image.now a.tape.now a.out.now a.end r a.image.now a.out.now) (sym e)
    (idle_turn _ _ _ _ _ c.if-out-end-lt6.false (ap (taken_by _ _) (sym c.read_call.ensures ∙ c.in_err-whole.was)))

pub overflow_cast-answer : goal.overflow_cast-answer
overflow_cast-answer c = omega (arith, c.serve-told.ensures.byte)

pub returns : goal.returns
returns c =
    call_turn _ _ _ _ _ _ c.if-out-end-lt6.false (sym c.read_call.ensures ∙ c.in_ok-whole.was) c.serve-told.ensures c.get_running-runs.ensures c.write_line.ensures
