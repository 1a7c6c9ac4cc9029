use Rattle.columns.specs.Rows.{single}
use Rattle.table.specs.Numbers.{tick-put}
use borrow.Author.Rules.{rules}
use Rattle.table.proofs.numbers.set_tick.Goals as goal

pub returns : goal.returns
unfolding single
returns c =
    tick-put _ _ _ (search rules) (search rules) (cc)
