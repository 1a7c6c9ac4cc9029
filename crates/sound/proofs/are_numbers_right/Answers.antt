use native.Mathlib.Omega.{arith}
use Rattle.table.specs.Image.{view}
use Rattle.table.specs.Written.{view_fits}
use Rattle.sound.specs.Whole.{numbers-row}
use Rattle.sound.proofs.are_numbers_right.Goals as goal

pub returns : goal.returns
returns c =
    let l = c.args.s.now in
    let f = view_fits l (omega arith) c.fits-s in
    cc (numbers-row (view l) f.tick (omega (arith, f.default_quantum)))
