use native.Mathlib.Omega.{arith}
use Rattle.table.specs.Shape.{view-shaped}
use Rattle.sound.specs.Walks.{walked_most}
use Rattle.sound.specs.Whole.{queues-told, queues-refused}
use Rattle.sound.proofs.queues.are_queues_right.Goals as goal

pub are_others_free-requires : goal.are_others_free-requires
are_others_free-requires c =
    omega (arith, walked_most (view-shaped c.args.s.now (omega arith)) c.in-Some.ensures)

pub returns : goal.returns
returns c =
    cc (queues-told (view-shaped c.args.s.now (omega arith)) c.requires c.fill_spots.ensures c.in-Some.ensures)

pub returns-in_default : goal.returns-in_default
returns-in_default c =
    queues-refused (view-shaped c.args.s.now (omega arith)) c.requires c.fill_spots.ensures c.in_default.ensures
