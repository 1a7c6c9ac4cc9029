use mathlib.Core.Path.{refl, ap, ◌∙◌}
use Prim.Native.Nat.{◌+◌}
use Rattle.rules.specs.Move.{chosen}
use Rattle.table.specs.Image.{view}
use Rattle.service.specs.Serving.{served}
use Rattle.object.proofs.Laws.{a-waiter, aborts}
use Rattle.object.proofs.abort_object.Goals as goal

pub returns : goal.returns
returns c =
    let q = c.args.first + c.args.i in
    let t = view c.args.s.now in
    let first = c.in-Some.ensures.front in
    served (a-waiter q t c.in-Some.w first ∙ c.in_ok-use_answer.ensures _) refl (c.choose.ensures ∙ ap chosen (aborts q t c.in-Some.w first c.end_wait.ensures))
