use mathlib.Core.Path.{◌≡◌, sym, ap, ◌∙◌}
use Prim.Native.Nat.{◌-◌}
use native.Mathlib.Omega.{arith}
use Rattle.rules.specs.Table.{mutex_of, mutex_queue, first_in, written}
use Rattle.table.specs.Image.{view}
use Rattle.laws.specs.local.Table.{work_of}
use Rattle.chain.specs.Local.{other_holder, no_waiter, beyond, first_counts}
use Rattle.chain.proofs.local.with_first.Goals as goal

pub returns-then-get_holder-i : goal.returns-then-get_holder-i
returns-then-get_holder-i c =
    let a = c.args in
    sym (other_holder (view a.s.now) a.i a.m a.best c.requires.0 (λ e. c.if-get_holder-i.true (c.get_holder.ensures ∙ e)))

pub returns-in_default : goal.returns-in_default
returns-in_default c =
    let a = c.args in
    sym (no_waiter (view a.s.now) a.i a.m a.best (sym c.in_default.ensures.front))

pub returns-then-v-ge-TASKS : goal.returns-then-v-ge-TASKS
returns-then-v-ge-TASKS c =
    let a = c.args in
    sym (beyond (view a.s.now) a.i a.m a.best (omega (arith, c.in-Some.ensures.front, c.if-v-ge-TASKS.true)))

pub returns-then-w-best : goal.returns-then-w-best
returns-then-w-best c =
    let a = c.args in
    let t = view a.s.now in
    let e = c.in-Some.ensures.front in
    let own : (mutex_of t a.m).holder ≡ written a.i = sym c.get_holder.ensures ∙ omega (arith, c.if-get_holder-i.false) in
    let it : first_in (mutex_queue a.m) t - 1 ≡ c.in-Some.v = omega (arith, e) in
    sym
    (first_counts t a.i a.m a.best own (λ z. omega (arith, e, z)) (omega (arith, e, c.if-v-ge-TASKS.false))
    ∙ omega (arith, c.if-w-best.true, c.get_work-w.ensures, ap (work_of t) it))

pub returns : goal.returns
returns c =
    let a = c.args in
    let t = view a.s.now in
    let e = c.in-Some.ensures.front in
    let own : (mutex_of t a.m).holder ≡ written a.i = sym c.get_holder.ensures ∙ omega (arith, c.if-get_holder-i.false) in
    let it : first_in (mutex_queue a.m) t - 1 ≡ c.in-Some.v = omega (arith, e) in
    sym
    (first_counts t a.i a.m a.best own (λ z. omega (arith, e, z)) (omega (arith, e, c.if-v-ge-TASKS.false))
    ∙ omega (arith, c.if-w-best.false, c.get_work-w.ensures, ap (work_of t) it))
