use lib.Dec.{eqb}
use Rattle.why.specs.Slots.{once_is}
use Rattle.why.specs.Tests.{is_placed}
use Rattle.why.proofs.queues.is_placed.Goals as goal

pub returns : goal.returns
unfolding is_placed
returns c =
    cc (once_is (eqb c.place_of-place.result c.args.q))
