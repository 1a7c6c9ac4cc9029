use mathlib.Core.Path.{sym, ◌∙◌}
use Rattle.table.specs.Image.{view}
use Rattle.table.proofs.Words.{beside-behind, beside_front, beside-before}
use Rattle.table.proofs.levels.has_equal.Goals as goal

pub returns-then-is_at : goal.returns-then-is_at
returns-then-is_at c =
    beside-behind c.args.i _ _ (view c.args.s.now) c.requires.2 c.get_work-l.ensures (sym c.is_at.ensures ∙ c.if-is_at.true)

pub returns-then-at-eq0 : goal.returns-then-at-eq0
returns-then-at-eq0 c =
    beside_front c.args.i _ _ (view c.args.s.now) c.requires.2 c.get_work-l.ensures (sym c.is_at.ensures ∙ c.if-is_at.false) c.if-at-eq0.true

pub returns : goal.returns
returns c =
    c.is_at-2.ensures
    ∙ beside-before c.args.i _ _ (view c.args.s.now) c.requires.2 c.get_work-l.ensures (sym c.is_at.ensures ∙ c.if-is_at.false) c.if-at-eq0.false
