use mathlib.Core.Path.{◌≡◌, sym, ◌∙◌}
use Prim.Native.Nat.{◌-◌}
use native.Mathlib.Omega.{arith}
use Rattle.rules.specs.Sizes.{task_count}
use Rattle.laws.specs.queues.Put.{work_at}
use Rattle.table.specs.Image.{view}
use Rattle.table.specs.Queues.{view-slots}
use Rattle.sound.specs.Lines.{may-task}
use Rattle.sound.proofs.Turns.{turn_free, turn_more, turn_stop, turn_end}
use Rattle.sound.proofs.walk.walk_queue.Goals as goal

pub returns-then-v-eq0 : goal.returns-then-v-eq0
returns-then-v-eq0 c =
    let l = c.loop-j in
    turn_free l.invariant (omega (arith, view-slots c.args.s.now (omega arith) c.args.q (omega arith))) c.slot_in-v.ensures c.if-v-eq0.true

pub returns-then-not-may_stand : goal.returns-then-not-may_stand
returns-then-not-may_stand c =
    let l = c.loop-j in
    turn_stop l.invariant (omega (arith, view-slots c.args.s.now (omega arith) c.args.q (omega arith))) c.slot_in-v.ensures _ c.if-v-eq0.false (sym c.may_stand.ensures ∙ c.if-not-may_stand.true)

pub get_work-key-requires : goal.get_work-key-requires
get_work-key-requires c =
    (omega (arith, may-task _ _ _ _ _ (sym c.may_stand.ensures ∙ c.if-not-may_stand.false)))

pub bounds-spots-i : goal.bounds-spots-i
bounds-spots-i c =
    omega (arith, c.loop-j.invariant.slots, may-task _ _ _ _ _ (sym c.may_stand.ensures ∙ c.if-not-may_stand.false))

pub loop-j-preserved : goal.loop-j-preserved
loop-j-preserved c =
    let l = c.loop-j in
    turn_more l.invariant (omega (arith, view-slots c.args.s.now (omega arith) c.args.q (omega arith))) c.slot_in-v.ensures (c.get_work-key.ensures ∙ sym (work_at (view c.args.s.now) (c.slot_in-v.result - 1))) c.if-v-eq0.false (sym c.may_stand.ensures ∙ c.if-not-may_stand.false)

pub returns : goal.returns
returns c =
    let e : c.loop-j.j ≡ task_count = omega arith in
    turn_end (rw e at c.loop-j.invariant) (omega (arith, view-slots c.args.s.now (omega arith) c.args.q (omega arith)))
