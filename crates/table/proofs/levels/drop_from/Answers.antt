use mathlib.Core.Path.{sym, ap, ◌∙◌}
use Prim.Native.Nat.{ℕ}
use Rattle.rules.specs.Table.{with_ready}
use Rattle.table.specs.Image.{view}
use Rattle.table.specs.Ready.{left_able, left_other}
use Rattle.table.proofs.levels.drop_from.Goals as goal

pub returns-then-q-eq-ABLE_QUEUE : goal.returns-then-q-eq-ABLE_QUEUE
returns-then-q-eq-ABLE_QUEUE c =
    let a = c.args in
    c.drop_at.ensures ∙ ap (λ (w : ℕ). with_ready w (view a.s.now)) (sym (left_able a.q a.i (view a.s.now) c.if-q-eq-ABLE_QUEUE.true))

pub returns-else-q-eq-ABLE_QUEUE : goal.returns-else-q-eq-ABLE_QUEUE
returns-else-q-eq-ABLE_QUEUE c =
    let a = c.args in
    ap (λ (w : ℕ). with_ready w (view a.s.now)) (sym (left_other a.q a.i (view a.s.now) c.if-q-eq-ABLE_QUEUE.false))
