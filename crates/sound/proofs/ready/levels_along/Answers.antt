use mathlib.Core.Path.{sym, ap, ◌∙◌}
use Prim.Native.Nat.{ℕ, ◌+◌, ◌-◌}
use native.Mathlib.Omega.{arith}
use lib.ListN.{get_or, drop}
use Rattle.rules.specs.Table.{queue_of, able_queue, works}
use Rattle.rules.specs.Ready.{with_level}
use Rattle.laws.specs.queues.Put.{work_at}
use Rattle.laws.specs.queues.Stands.{slot-range}
use Rattle.table.specs.Image.{view}
use Rattle.table.specs.Queues.{view-slots}
use Rattle.sound.specs.Ready.{levels_from, from_free, from_next, from_end}
use Rattle.sound.proofs.ready.levels_along.Goals as goal

pub returns-then-v-eq0 : goal.returns-then-v-eq0
returns-then-v-eq0 c =
    let l = c.loop-j in
    let s = c.args.s.now in
    let size = view-slots s (omega arith) able_queue (omega arith) in
    sym (from_free (works (view s)) l.word (queue_of (view s) able_queue) l.j (omega (arith, size)) (sym c.slot_in-v.ensures ∙ c.if-v-eq0.true)) ∙ l.invariant

pub get_work-requires : goal.get_work-requires
get_work-requires c =
    omega (arith, c.if-v-eq0.false, c.slot_in-v.ensures, slot-range c.requires able_queue (omega arith) c.loop-j.j)

pub loop-j-preserved : goal.loop-j-preserved
loop-j-preserved c =
    let l = c.loop-j in
    let s = c.args.s.now in
    let v = c.slot_in-v.ensures in
    let size = view-slots s (omega arith) able_queue (omega arith) in
    ap (λ (x : ℕ). levels_from (works (view s)) x (drop (l.j + 1) (queue_of (view s) able_queue)))
    (c.with_level-word.ensures ∙ ap (λ (x : ℕ). with_level x l.word) (c.get_work.ensures ∙ sym (work_at (view s) _) ∙ ap (λ (x : ℕ). get_or (works (view s)) (x - 1) 0) v))
    ∙ sym (from_next (works (view s)) l.word (queue_of (view s) able_queue) l.j (omega (arith, size)) (λ z. c.if-v-eq0.false (v ∙ z)))
    ∙ l.invariant

pub returns : goal.returns
returns c =
    let l = c.loop-j in
    let s = c.args.s.now in
    sym (from_end (works (view s)) l.word (queue_of (view s) able_queue) l.j (omega (arith, view-slots s (omega arith) able_queue (omega arith)))) ∙ l.invariant
