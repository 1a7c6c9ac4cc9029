use native.Mathlib.Numerals.{add-one}
use borrow.Author.Tests.{eq-eqb, ne_eqb}
use Rattle.queue.specs.Slots.{from}
use Rattle.queue.proofs.is_later.Goals as goal

pub returns-then-v-eq0 : goal.returns-then-v-eq0
unfolding from
returns-then-v-eq0 c =
    rw (eq-eqb _ _ c.if-v-eq0.true)

pub returns : goal.returns
unfolding from
returns c =
    rw (add-one, ne_eqb _ _ c.if-v-eq0.false, ← c.slot_or_free-k.ensures)
