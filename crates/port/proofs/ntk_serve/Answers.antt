use Rattle.std.proofs.Common.{refl, ap, ◌∙◌}
use Rattle.service.specs.Told.{answer_in, further_in}
use Rattle.port.specs.Step.{said, plainly}
use Rattle.port.specs.Ways.{serve-wrong, serve_right}
use Rattle.port.proofs.Laws.{gives_by, gives_along, gives-answered, gives-unsound}
use Rattle.port.proofs.ntk_serve.Goals as goal

pub returns-in_default : goal.returns-in_default
returns-in_default c =
    let a = c.args in
    gives_by (serve-wrong a.kind a.a a.b a.c a.d a.e a.f a.image.now c.in_default.ensures.cases) (gives-unsound (c.split.ensures.0 ∙ ap answer_in c.not_sound.ensures.0) (c.split.ensures.1 ∙ c.not_sound.ensures.1) (c.split.ensures.2 ∙ ap further_in c.not_sound.ensures.0) refl)

pub returns : goal.returns
returns c =
    let a = c.args in
    let whole = c.in-Some.ensures.cases in
    gives_by (serve_right a.kind a.a a.b a.c a.d a.e a.f a.image.now whole.long) (gives_along (plainly (said a.kind a.a a.b a.c a.d a.e a.f)) whole.same (gives-answered c.serve_plainly.ensures c.split-2.ensures.0 c.split-2.ensures.1 c.split-2.ensures.2))
