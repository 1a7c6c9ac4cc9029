use native.Mathlib.Omega.{arith}
use borrow.Author.Tests.{eq-eqb}
use Rattle.queue.specs.Order.{fits}
use Rattle.queue.proofs.Check.{next_slot, fit_id}
use Rattle.queue.proofs.is_fit.Goals as goal

pub returns-then-v-eq0 : goal.returns-then-v-eq0
unfolding fits
returns-then-v-eq0 c =
    rw (eq-eqb _ _ c.if-v-eq0.true, next_slot, ← c.slot_or_free-w.ensures)

pub overflow_cast-v : goal.overflow_cast-v
overflow_cast-v c =
    omega (arith, c.shared_slice_known-1.given c.args.j)

pub overflow_cast-result : goal.overflow_cast-result
overflow_cast-result c =
    omega (arith, c.shared_slice_known-1.given c.args.j)

pub returns : goal.returns
returns c =
    let a = c.args in
    fit_id a.keys.now a.ids.now a.j _ _ _ c.if-v-eq0.false c.slot_or_free-w.ensures c.slot_of-again.ensures c.may_precede-ordered.ensures
