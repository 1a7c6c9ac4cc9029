use mathlib.Core.Path.{sym, ap, ◌∙◌}
use native.Mathlib.Nat.{pos_of_ne-zero}
use native.Mathlib.Omega.{arith}
use lib.ListN.{get_or-eq_default}
use Rattle.rules.specs.Table.{no_mutex}
use Rattle.rules.specs.declared.Mutex.{Mutex}
use Rattle.table.specs.Image.{view}
use Rattle.table.specs.Shape.{view-shaped}
use Rattle.laws.specs.chains.Graph.{no_holder, written-holder}
use Rattle.chain.proofs.holder_of.Goals as goal

pub returns-then-m-ge-MUTEXES : goal.returns-then-m-ge-MUTEXES
returns-then-m-ge-MUTEXES c =
    let t = view c.args.s.now in
    sym (no_holder t c.args.m (ap (λ (x : Mutex). x.holder) (get_or-eq_default t.mutexes no_mutex {n = c.args.m} (omega (arith, (view-shaped c.args.s.now (omega arith)).mutexes)))))

pub returns-then-v-eq0 : goal.returns-then-v-eq0
returns-then-v-eq0 c =
    let a = c.args in
    sym (no_holder (view a.s.now) a.m (sym c.get_holder-v.ensures ∙ c.if-v-eq0.true))

pub returns : goal.returns
returns c =
    let a = c.args in
    let some = pos_of_ne-zero c.if-v-eq0.false in
    sym (written-holder (view a.s.now) a.m _ (omega (arith, c.get_holder-v.ensures, some)))
