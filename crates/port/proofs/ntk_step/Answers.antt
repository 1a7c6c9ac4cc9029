use Rattle.std.proofs.Common.{refl, sym, ap, ◌∙◌, List, ℕ}
use Rattle.rules.specs.Sound.{is_sound}
use Rattle.service.specs.Told.{answer_in, further_in}
use Rattle.table.specs.Image.{view}
use Rattle.port.specs.Step.{said, plainly}
use Rattle.port.specs.Ways.{step-wrong, step-unsound, step-sound}
use Rattle.port.proofs.Laws.{gives_by, gives_along, gives-answered, gives-unsound}
use Rattle.port.proofs.ntk_step.Goals as goal

pub returns-in_default : goal.returns-in_default
returns-in_default c =
    let a = c.args in
    gives_by (step-wrong a.kind a.a a.b a.c a.d a.e a.f a.image.now c.in_default.ensures.cases) (gives-unsound (c.split.ensures.0 ∙ ap answer_in c.not_sound.ensures.0) (c.split.ensures.1 ∙ c.not_sound.ensures.1) (c.split.ensures.2 ∙ ap further_in c.not_sound.ensures.0) refl)

pub returns-then-not-is_sound : goal.returns-then-not-is_sound
returns-then-not-is_sound c =
    let a = c.args in
    let whole = c.in-Some.ensures.cases in
    let tested = sym (ap (λ (l : List ℕ). is_sound (view l)) whole.same) ∙ (sym c.is_sound.ensures ∙ c.if-not-is_sound.true) in
    gives_by (step-unsound a.kind a.a a.b a.c a.d a.e a.f a.image.now whole.long tested) (gives-unsound (c.split-then-not-is_sound.ensures.0 ∙ ap answer_in c.not_sound-then-not-is_sound.ensures.0) (c.split-then-not-is_sound.ensures.1 ∙ c.not_sound-then-not-is_sound.ensures.1) (c.split-then-not-is_sound.ensures.2 ∙ ap further_in c.not_sound-then-not-is_sound.ensures.0) whole.same)

pub returns : goal.returns
returns c =
    let a = c.args in
    let whole = c.in-Some.ensures.cases in
    let tested = sym (ap (λ (l : List ℕ). is_sound (view l)) whole.same) ∙ (sym c.is_sound.ensures ∙ c.if-not-is_sound.false) in
    gives_by (step-sound a.kind a.a a.b a.c a.d a.e a.f a.image.now whole.long tested) (gives_along (plainly (said a.kind a.a a.b a.c a.d a.e a.f)) whole.same (gives-answered c.serve_plainly.ensures c.split-2.ensures.0 c.split-2.ensures.1 c.split-2.ensures.2))
