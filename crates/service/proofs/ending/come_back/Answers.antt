use mathlib.Core.Path.{sym, ap, ◌∙◌}
use Prim.Native.Nat.{◌<◌}
use native.Mathlib.Omega.{arith}
use Rattle.rules.specs.Sizes.{task_count, plain}
use Rattle.rules.specs.declared.Task.{Task}
use Rattle.rules.specs.Table.{task_of, with_task, with_state, with_outcome}
use Rattle.rules.specs.Move.{ready}
use Rattle.table.specs.Image.{view}
use Rattle.table.specs.Shape.{view-shaped}
use Rattle.table.specs.Settled.{then_stored, joined-put}
use Rattle.service.specs.Places.{delayed-nowhere}
use Rattle.service.proofs.Endings.{away-ready}
use Rattle.service.proofs.ending.come_back.Goals as goal

pub returns : goal.returns
returns c =
    let a = c.args in
    let t = view a.s.now in
    let k = task_of t a.i in
    let l : a.i < task_count = omega arith in
    let size = (view-shaped a.s.now (omega arith)).tasks in
    let away = c.requires.1 in
    let stored = c.set_outcome.ensures
    ∙ then_stored a.i t l size (with_outcome a.outcome) (with_state plain 0 k) _ c.set_state.ensures
    ∙ ap (λ (x : Task). with_task a.i x t) (away-ready a.outcome k away) in
    c.join_queue.ensures
    ∙ joined-put a.i (ready a.outcome k) t l size _ stored _ c.place_of-q.ensures (delayed-nowhere k (ap (λ (x : Task). x.state) (sym away)))
