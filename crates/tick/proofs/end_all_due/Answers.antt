use Rattle.std.proofs.Common.{ℕ, sym, ap, ◌∙◌}
use Rattle.rules.specs.Tick.{due_ended}
use Rattle.table.specs.Image.{view}
use Rattle.tick.specs.Marks.{some_at}
use Rattle.tick.proofs.Laws.{below_none, below_next, none_due}
use Rattle.tick.proofs.end_all_due.Goals as goal

pub returns-then-not-any_at : goal.returns-then-not-any_at
returns-then-not-any_at c =
    let t = view c.args.s.now in
    none_due 32 t (sym (c.any_at.ensures ∙ ap (λ (x : ℕ). some_at 32 x t) c.get_tick-at.ensures) ∙ c.if-not-any_at.true)

pub loop-i-init : goal.loop-i-init
loop-i-init c =
    below_none _

pub loop-i-preserved : goal.loop-i-preserved
loop-i-preserved c =
    let i = c.loop-i.i in
    c.end_due.ensures ∙ ap (due_ended i) c.loop-i.invariant ∙ below_next i _
