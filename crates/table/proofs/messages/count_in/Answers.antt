use Rattle.std.proofs.Common.{arith, length-take}
use Rattle.rules.specs.Table.{channel_of, row_of}
use Rattle.rules.specs.Messages.{present}
use Rattle.table.specs.Image.{view}
use Rattle.table.specs.Shape.{view-shaped}
use Rattle.table.proofs.messages.count_in.Goals as goal

pub returns : goal.returns
unfolding present
returns c =
    let t = view c.args.s.now in
    (omega (arith, c.min.ensures, c.get_held.ensures, length-take (channel_of t c.args.c).held (row_of t c.args.c), (view-shaped c.args.s.now (omega arith)).rows c.args.c c.requires), omega (arith, c.min.ensures))
