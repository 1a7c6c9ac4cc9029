use mathlib.Core.Path.{sym, ◌∙◌}
use Prim.Native.Nat.{◌-◌}
use native.Mathlib.Omega.{arith}
use lib.ListN.{get_or-eq_default}
use Rattle.rules.specs.Table.{works}
use Rattle.rules.proofs.Tested.{keyed}
use Rattle.laws.specs.queues.Put.{work_at}
use Rattle.table.specs.Image.{view}
use Rattle.table.specs.Shape.{view-shaped}
use Rattle.why.proofs.queues.key_of.Goals as goal

pub returns-then-v-gt32 : goal.returns-then-v-gt32
returns-then-v-gt32 c =
    let a = c.args in
    let t = view a.s.now in
    sym (get_or-eq_default (works t) 0 {n = a.v - 1} (omega (arith, keyed t (view-shaped a.s.now (omega arith)))))

pub returns : goal.returns
returns c =
    let a = c.args in
    c.get_work.ensures ∙ sym (work_at (view a.s.now) (a.v - 1))
