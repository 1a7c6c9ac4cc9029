use lib.Dec.{eqb}
use mathlib.Core.Bool.{◌&&◌}
use Rattle.rules.specs.Sound.{is_no_mutex}
use Rattle.why.specs.Zeros.{free_is}
use Rattle.why.proofs.objects.is_free_mutex_right.Goals as goal

pub returns : goal.returns
unfolding is_no_mutex
returns c =
    cc (free_is (eqb c.get_used-used.result 0) (eqb c.get_holder-holder.result 0 && eqb c.get_nesting-nesting.result 0))
