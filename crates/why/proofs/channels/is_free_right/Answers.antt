use lib.Dec.{eqb}
use mathlib.Core.Bool.{◌&&◌}
use Rattle.rules.specs.Sound.{is_no_channel}
use Rattle.why.specs.Zeros.{free_is}
use Rattle.why.proofs.channels.is_free_right.Goals as goal

pub returns : goal.returns
unfolding is_no_channel
returns c =
    cc (free_is (eqb c.get_used-used.result 0) (eqb c.get_capacity-capacity.result 0 && eqb c.get_held-held.result 0))
