use mathlib.Core.Path.{◌∙◌, sym}
use native.Mathlib.Omega.{arith}
use Rattle.queue.proofs.Check.{check_start, check_more, check_stop, check_end}
use Rattle.queue.proofs.is_ordered.Goals as goal

pub loop-j-init : goal.loop-j-init
loop-j-init c =
    check_start _ _

pub returns-then-not-is_fit : goal.returns-then-not-is_fit
returns-then-not-is_fit c =
    check_stop _ _ _ (omega arith) (sym c.is_fit.ensures ∙ c.if-not-is_fit.true) c.loop-j.invariant

pub loop-j-preserved : goal.loop-j-preserved
loop-j-preserved c =
    check_more _ _ _ (omega arith) (sym c.is_fit.ensures ∙ c.if-not-is_fit.false) c.loop-j.invariant

pub returns : goal.returns
returns c =
    check_end _ _ _ (omega arith) c.loop-j.invariant
