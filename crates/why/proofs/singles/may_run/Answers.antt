use Prim.Native.Nat.{◌-◌}
use native.Mathlib.Omega.{arith}
use lib.ListN.{get_or-eq_default}
use borrow.Author.Tests.{ne_eqb}
use Rattle.rules.specs.Table.{is_able, no_task}
use Rattle.table.specs.Image.{view}
use Rattle.table.specs.Shape.{view-shaped}
use Rattle.why.specs.Tests.{may_run}
use Rattle.why.proofs.singles.may_run.Goals as goal

pub returns-then-v-gt32 : goal.returns-then-v-gt32
unfolding may_run is_able
returns-then-v-gt32 c =
    let a = c.args in
    let t = view a.s.now in
    let s = view-shaped a.s.now (omega arith) in
    rw (ne_eqb a.v 0 c.if-v-eq0.false, get_or-eq_default t.tasks no_task {n = a.v - 1} (omega (arith, s.tasks)))
