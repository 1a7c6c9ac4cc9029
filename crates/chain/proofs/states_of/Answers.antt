use Rattle.table.specs.Image.{view}
use Rattle.chain.specs.States.{states_eight}
use Rattle.chain.proofs.states_of.Goals as goal

pub returns : goal.returns
returns c =
    let a = c.args in
    cc (states_eight (view a.s.now) a.a)
