use Rattle.std.proofs.Common.{◌≡◌, arith}
use Rattle.table.specs.Image.{Image, view}
use Rattle.table.specs.Shape.{view-shaped}
use Rattle.table.specs.Written.{view_fits}
use Rattle.chain.specs.Carry.{settled_none}
use Rattle.chain.specs.Given.{settled-given}
use Rattle.chain.specs.States.{states_past}
use Rattle.chain.proofs.carry_all.Goals as goal
use Rattle.chain.proofs.carry_all.Goals.{then-states_of-ge-WAITS_MUTEX, else-states_of-ge-WAITS_MUTEX}

pub loop-a-init : goal.loop-a-init
loop-a-init c =
    let none = c.requires in
    let fits = view_fits c.args.s.now (omega arith) c.fits-s in
    (omega arith, omega arith, settled_none none.size none.at (λ i h. omega (arith, (fits.tasks i h).base)))

pub loop-a-preserved : goal.loop-a-preserved
loop-a-preserved c =
    let i = c.loop-a in
    let t = view c.args.s.now in (
      omega arith,
      omega arith,
      elim c.if-states_of-ge-WAITS_MUTEX.branch [
        | then-states_of-ge-WAITS_MUTEX w ↦ rw w.given-is w.carry_eight.ensures
        | else-states_of-ge-WAITS_MUTEX w ↦ rw w.given-is (states_past t 8 i.a (omega (arith, w.if-states_of-ge-WAITS_MUTEX.false, c.states_of.ensures)) i.invariant.2)
      ],
    )

pub returns : goal.returns
returns c =
    let l = c.args.s.now in
    let image : Image l = omega arith in
    let fits = view_fits l image c.fits-s in
    let e : c.loop-a.a ≡ 32 = omega arith in
    settled-given (view l) _ (view-shaped l image) (λ i h. omega (arith, (fits.tasks i h).base)) (rw e at c.loop-a.invariant.2)
