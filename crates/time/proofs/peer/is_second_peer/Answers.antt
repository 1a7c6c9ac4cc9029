use native.Mathlib.Omega.{arith}
use Rattle.std.proofs.Common.{ℕ, ◌-◌, sym, ap, ◌∙◌}
use Rattle.table.specs.Image.{view}
use Rattle.table.specs.Shape.{view-shaped}
use Rattle.time.specs.Peers.{is_peer}
use Rattle.time.proofs.PeerLaws.{second_none, second_past, second_some}
use Rattle.time.proofs.peer.is_second_peer.Goals as goal

pub returns-then-v-eq0 : goal.returns-then-v-eq0
returns-then-v-eq0 c =
    second_none _ _ (sym c.slot_in-v.ensures ∙ c.if-v-eq0.true)

pub returns-then-v-gt-TASKS : goal.returns-then-v-gt-TASKS
returns-then-v-gt-TASKS c =
    second_past _ _ _ (sym c.slot_in-v.ensures) c.if-v-gt-TASKS.true (view-shaped c.args.s.now (omega arith)).tasks

pub returns : goal.returns
returns c =
    let a = c.args in
    let t = view a.s.now in
    let v = c.slot_in-v.result in
    c.is_peer.ensures ∙ ap (λ (w : ℕ). is_peer (v - 1) a.i w t) c.work_at-w.ensures ∙ second_some a.i t v (sym c.slot_in-v.ensures) c.if-v-eq0.false
