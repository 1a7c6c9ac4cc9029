use Rattle.std.proofs.Common.{◌≡◌, sym, ap, ◌∙◌, le_antisymm}
use Rattle.table.specs.Image.{view}
use Rattle.chain.specs.Local.{with_first, firsts_below, below_none, below_next, below_all}
use Rattle.chain.proofs.local.local_of.Goals as goal

pub loop-m-init : goal.loop-m-init
loop-m-init c =
    let a = c.args in
    c.get_base-best.ensures ∙ sym (below_none (view a.s.now) a.i)

pub loop-m-preserved : goal.loop-m-preserved
loop-m-preserved c =
    let a = c.args in
    let l = c.loop-m in
    c.with_first-best.ensures ∙ ap (with_first (view a.s.now) a.i l.m) l.invariant ∙ sym (below_next (view a.s.now) a.i l.m)

pub returns : goal.returns
returns c =
    let a = c.args in
    let e : c.loop-m.m ≡ 16 = le_antisymm c.loop-m.auto.m-end c.loop-m-test.false in
    c.loop-m.invariant ∙ ap (firsts_below (view a.s.now) a.i) e ∙ sym (below_all (view a.s.now) a.i)
