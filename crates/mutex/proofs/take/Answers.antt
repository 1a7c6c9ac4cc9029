use mathlib.Core.Path.{refl, ap, ◌∙◌}
use Rattle.rules.specs.Move.{chosen}
use Rattle.table.specs.Image.{view}
use Rattle.service.specs.Serving.{refused, served, told}
use Rattle.mutex.proofs.Laws.{takes-answer, takes, blocks-answer, blocks, deep_answer, nests-answer, nests}
use Rattle.mutex.proofs.take.Goals as goal

pub returns-then-holder-eq0 : goal.returns-then-holder-eq0
returns-then-holder-eq0 c =
    let a = c.args in
    let t = view a.s.now in
    let h = c.get_holder-holder.ensures in
    let k = c.caller_of-caller.ensures.0 in
    served (takes-answer a.i t h k a.block c.if-holder-eq0.true) refl (c.hold.ensures ∙ ap chosen (takes a.i t h k a.limit c.if-holder-eq0.true))

pub returns-then-holder-caller : goal.returns-then-holder-caller
returns-then-holder-caller c =
    let a = c.args in
    let t = view a.s.now in
    let h = c.get_holder-holder.ensures in
    let k = c.caller_of-caller.ensures.0 in
    told (blocks-answer a.i t h k c.if-holder-eq0.false c.if-holder-caller.true a.block) (ap chosen (blocks a.i t h k c.if-holder-eq0.false c.if-holder-caller.true a.limit)) c.wait_on.ensures

pub returns-then-n-ge-MOST_NESTED : goal.returns-then-n-ge-MOST_NESTED
returns-then-n-ge-MOST_NESTED c =
    let a = c.args in
    refused (deep_answer a.i (view a.s.now) c.get_holder-holder.ensures c.caller_of-caller.ensures.0 c.if-holder-eq0.false c.if-holder-caller.false c.get_nesting-n.ensures a.block c.if-n-ge-MOST_NESTED.true) refl

pub returns : goal.returns
returns c =
    let a = c.args in
    let t = view a.s.now in
    let h = c.get_holder-holder.ensures in
    let k = c.caller_of-caller.ensures.0 in
    let n = c.get_nesting-n.ensures in
    served (nests-answer a.i t h k c.if-holder-eq0.false c.if-holder-caller.false n a.block c.if-n-ge-MOST_NESTED.false) refl
    (c.hold-2.ensures ∙ ap chosen (nests a.i t h k c.if-holder-eq0.false c.if-holder-caller.false n a.limit))
