use mathlib.Core.Path.{◌≡◌}
use mathlib.Core.List.{List}
use Prim.Native.Nat.{ℕ, ◌<◌}
use native.Mathlib.Omega.{arith}
use Rattle.rules.specs.Move.{base_of, fresh_in}
use Rattle.rules.specs.Tape.{Bytes}
use Rattle.table.specs.Image.{Image, view}
use Rattle.table.specs.Shape.{view-shaped}
use Rattle.table.specs.Written.{view_fits}
use Rattle.chain.specs.Carry.{lower}
use Rattle.chain.specs.Given.{Given, given-fresh}
use Rattle.chain.proofs.fresh_of.Goals as goal

-- In an image of bytes no base priority is greater than the byte for nothing given.
given-worked : (l : List ℕ) {given : List ℕ} (i : ℕ) → Bytes l → (i < 32) → Image l → Given (view l) given → lower (base_of (view l)) given i ≡ fresh_in (view l) i
given-worked l i bytes h image g = given-fresh g i h (omega (arith, ((view_fits l image bytes).tasks i h).base)) (view-shaped l image)

pub returns-then-v-own : goal.returns-then-v-own
returns-then-v-own c =
    omega (arith, c.get_base-own.ensures, given-worked c.args.s.now c.args.i c.fits-s c.requires.0 (omega arith) c.requires.1)

pub returns : goal.returns
returns c =
    omega (arith, c.get_base-own.ensures, given-worked c.args.s.now c.args.i c.fits-s c.requires.0 (omega arith) c.requires.1)
