use mathlib.Core.Path.{◌≡◌, sym, ap, ◌∙◌}
use mathlib.Core.Bool.{false}
use Prim.Native.Nat.{ℕ}
use Rattle.rules.specs.Table.{with_ready}
use Rattle.rules.specs.Ready.{beside}
use Rattle.table.specs.Image.{view}
use Rattle.table.proofs.Words.{level-stays, level_dropped}
use Rattle.table.proofs.levels.drop_at.Goals as goal

pub returns-then-has_equal : goal.returns-then-has_equal
returns-then-has_equal c =
    let a = c.args in
    level-stays a.i (view a.s.now) (sym c.has_equal.ensures ∙ c.if-has_equal.true)

pub returns : goal.returns
returns c =
    let a = c.args in
    let e : beside a.i (view a.s.now) ≡ false = sym c.has_equal.ensures ∙ c.if-has_equal.false in
    c.clear_level.ensures ∙ ap (λ (w : ℕ). with_ready w (view a.s.now)) (level_dropped a.i (view a.s.now) e)
