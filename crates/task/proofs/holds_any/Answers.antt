use Rattle.std.proofs.Common.{sym, ◌∙◌}
use Rattle.table.specs.Image.{view}
use Rattle.task.proofs.Laws.{holds_none, holds_later, holds-found}
use Rattle.task.proofs.holds_any.Goals as goal

pub loop-m-init : goal.loop-m-init
loop-m-init c =
    holds_none c.args.i (view c.args.s.now)

pub returns-then-v-i : goal.returns-then-v-i
returns-then-v-i c =
    let a = c.args in
    holds-found a.i (view a.s.now) 16 c.loop-m.m c.loop-m-test.true (sym c.get_holder-v.ensures ∙ c.if-v-i.true)

pub loop-m-preserved : goal.loop-m-preserved
loop-m-preserved c =
    let a = c.args in
    holds_later a.i (view a.s.now) c.loop-m.m (λ z. c.if-v-i.false (c.get_holder-v.ensures ∙ z)) c.loop-m.invariant
