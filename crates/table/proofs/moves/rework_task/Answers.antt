use mathlib.Core.Path.{◌≡◌, sym, ap, ◌∙◌}
use Prim.Native.Nat.{ℕ}
use lib.Dec.{ltb}
use native.Mathlib.Omega.{arith}
use Rattle.rules.specs.Table.{task_of}
use Rattle.table.specs.Image.{view}
use Rattle.table.specs.Ready.{reworked_in}
use Rattle.laws.specs.chains.Graph.{work_same}
use Rattle.table.proofs.Places.{rework_there, rework_none}
use Rattle.table.proofs.moves.rework_task.Goals as goal

pub returns-then-old-p : goal.returns-then-old-p
returns-then-old-p c =
    let a = c.args in
    sym (work_same (view a.s.now) a.i a.p (omega arith) (sym c.get_work-old.ensures ∙ c.if-old-p.true))

pub returns-then-q-ge-QUEUES : goal.returns-then-q-ge-QUEUES
returns-then-q-ge-QUEUES c =
    let a = c.args in
    let other : ((task_of (view a.s.now) a.i).work ≡ a.p → ⊥) = λ e. c.if-old-p.false (c.get_work-old.ensures ∙ e) in
    c.set_work.ensures ∙ rework_none a.i a.p _ (view a.s.now) (omega arith) c.place_of-q.ensures other c.if-q-ge-QUEUES.true

pub returns : goal.returns
returns c =
    let a = c.args in
    let other : ((task_of (view a.s.now) a.i).work ≡ a.p → ⊥) = λ e. c.if-old-p.false (c.get_work-old.ensures ∙ e) in
    c.rework_in.ensures
    ∙ ap (λ (x : ℕ). reworked_in (ltb a.p x) c.place_of-q.result a.i a.p (view a.s.now)) c.get_work-old.ensures
    ∙ rework_there a.i a.p _ (view a.s.now) (omega arith) c.place_of-q.ensures other c.if-q-ge-QUEUES.false
