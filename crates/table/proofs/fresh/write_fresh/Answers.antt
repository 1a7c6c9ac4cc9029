use Rattle.std.specs.Prelude.{◌≡◌}
use Rattle.std.proofs.Common.{arith}
use Rattle.table.specs.Image.{image_size}
use Rattle.table.specs.Shape.{written_all}
use Rattle.table.proofs.fresh.write_fresh.Goals as goal

pub returns : goal.returns
returns c =
    let e : c.loop-i.i ≡ image_size = omega arith in written_all (rw e at c.loop-i.invariant)
