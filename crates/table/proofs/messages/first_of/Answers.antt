use native.Mathlib.Omega.{arith}
use mathlib.Core.Path.{sym, ◌∙◌}
use Rattle.table.specs.Image.{view}
use Rattle.table.specs.Shape.{view-shaped}
use Rattle.table.proofs.Laid.{first_none, first_there}
use Rattle.table.proofs.messages.first_of.Goals as goal

pub returns-then-get_held-eq0 : goal.returns-then-get_held-eq0
returns-then-get_held-eq0 c =
    let l = c.args.s.now in
    first_none (view l) (view-shaped l (omega arith)) c.args.c c.requires (sym c.get_held.ensures ∙ c.if-get_held-eq0.true)

pub returns : goal.returns
returns c =
    let l = c.args.s.now in
    c.get_message_at.ensures ∙ first_there (view l) (view-shaped l (omega arith)) c.args.c c.requires (λ e. c.if-get_held-eq0.false (c.get_held.ensures ∙ e))
