use mathlib.Core.Path.{◌≡◌, sym, subst}
use Prim.Native.Nat.{ℕ}
use native.Mathlib.Omega.{arith}
use lib.ListN.{length}
use Rattle.cues.specs.Evening.{PlayedInOrder}
use Rattle.cues.proofs.Going.{going_start, going_turn, going_nobody, going_full, played_out}
use Rattle.cues.proofs.play_out.Goals as goal

pub loop-n-init : goal.loop-n-init
loop-n-init c =
    going_start _ _ _ (omega arith)

pub loop-n-preserved : goal.loop-n-preserved
loop-n-preserved c =
    going_turn _ (omega arith) (sym c.in-Some.ensures) c.remove.ensures.1 c.loop-n.invariant

pub returns-in_default : goal.returns-in_default
returns-in_default c =
    played_out (going_nobody _ (sym c.in_default.ensures) c.loop-n.invariant)

pub returns : goal.returns
returns c =
    let l = c.loop-n in
    let e : l.n ≡ length l.out = omega arith in
    subst (λ (r : ℕ). PlayedInOrder c.args.cues.now c.args.out.now r l.cues l.out) e (played_out (going_full _ (omega arith) l.invariant))
