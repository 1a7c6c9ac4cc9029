use mathlib.Core.Path.{sym, ◌∙◌}
use borrow.Author.Tests.{leb-true, leb-false}
use Rattle.rules.specs.Chain.{after}
use Rattle.rules.specs.Move.{next}
use Rattle.laws.specs.local.Walk.{most}
use Rattle.table.specs.Image.{view}
use Rattle.chain.specs.Rings.{ringless_none, ringless_next, ringless-fails}
use Rattle.chain.proofs.rings.no_rings.Goals as goal

pub loop-j-init : goal.loop-j-init
loop-j-init c =
    ringless_none 32 (next (view c.args.s.now)) most

pub returns-then-not-runs_out : goal.returns-then-not-runs_out
returns-then-not-runs_out c =
    let n = next (view c.args.s.now) in
    let j = c.loop-j.j in
    let long = leb-false 32 (after n most j) (sym c.runs_out.ensures ∙ c.if-not-runs_out.true) in
    sym (ringless-fails 32 n most 32 j c.loop-j-test.true long)

pub loop-j-preserved : goal.loop-j-preserved
loop-j-preserved c =
    let n = next (view c.args.s.now) in
    let l = c.loop-j in
    let out = leb-true 32 (after n most l.j) (sym c.runs_out.ensures ∙ c.if-not-runs_out.false) in
    ringless_next 32 n most l.j out l.invariant
