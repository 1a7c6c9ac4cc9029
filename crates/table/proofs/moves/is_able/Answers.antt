use Rattle.rules.specs.Table.{is_able}
use Rattle.table.proofs.moves.is_able.Goals as goal

pub returns : goal.returns
unfolding is_able
returns c =
    rw (← c.get_used-used.ensures, ← c.get_state-state.ensures, ← c.get_suspend-suspend.ensures)
