use mathlib.Core.Path.{refl, sym, ap, ◌∙◌}
use mathlib.Core.Bool.{not}
use Prim.Native.Nat.{◌<◌}
use native.Mathlib.Omega.{arith}
use Rattle.rules.specs.Move.{chosen}
use Rattle.rules.specs.Object.{object_delete_answer}
use Rattle.table.specs.Image.{view}
use Rattle.service.specs.Answers.{done-changes}
use Rattle.service.specs.Serving.{served, begun}
use Rattle.object.specs.Answers.{object-range}
use Rattle.object.proofs.Laws.{deletes, handed-through}
use Rattle.object.proofs.delete.Goals as goal

pub returns-in_err-answer : goal.returns-in_err-answer
unfolding object_delete_answer
returns-in_err-answer g c =
    handed-through c.in_err-answer.field-0.0 c.from_residual.result c.from_residual.ensures.1 refl
    (rw (c.COUNT.ensures ∙ g.met.K.Kind.count_is, c.FIRST.ensures ∙ g.met.K.Kind.first_is, c.used_at-used.ensures) at c.in_err-answer.ensures)

pub clear-requires : goal.clear-requires
clear-requires g c =
    let goes = done-changes c.in_ok-answer.answer in
    let low = object-range c.COUNT.result c.args.i c.used_at-used.result _ c.in_ok-answer.ensures.says (sym (ap not goes)) refl in
    omega (arith, low, c.COUNT.ensures, g.met.K.Kind.count_is)

pub returns : goal.returns
unfolding object_delete_answer
returns g c =
    let f = g.K.Kind.family in
    let goes = done-changes c.in_ok-answer.answer in
    let low : c.args.i < f.count =
    let l = object-range c.COUNT.result c.args.i c.used_at-used.result _ c.in_ok-answer.ensures.says (sym (ap not goes)) refl in
    omega (arith, l, c.COUNT.ensures, g.met.K.Kind.count_is) in
    let d = rw (c.COUNT.ensures ∙ g.met.K.Kind.count_is, c.FIRST.ensures ∙ g.met.K.Kind.first_is, c.used_at-used.ensures) at c.in_ok-answer.ensures in
    served d.says goes (c.choose.ensures ∙ ap chosen (deletes f c.args.i (view c.args.s.now) refl (c.holder_at-holder.ensures low) _ _ _ (begun d (sym (ap not goes)) refl) c.clear.ensures c.walk_from.ensures))
