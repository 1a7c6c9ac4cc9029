use mathlib.Core.Path.{refl}
use native.Mathlib.Omega.{arith}
use Rattle.queue.specs.Packed.{packed-short}
use Rattle.queue.proofs.Nines.{nine-packed, part_size}
use Rattle.queue.proofs.shifts.has_nine.Goals as goal

pub returns-then-ids-j : goal.returns-then-ids-j
returns-then-ids-j c =
    packed-short 9 _ _ (omega arith)

pub returns-in_default : goal.returns-in_default
returns-in_default c =
    packed-short 9 _ _ (omega (arith, part_size c.args.j c.args.ids.now))

pub returns : goal.returns
returns c =
    nine-packed c.args.j _ _ refl (omega (arith, part_size c.args.j c.args.ids.now, c.in-len9-up.len_at_least))
