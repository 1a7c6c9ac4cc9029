use Rattle.columns.specs.Rows.{single}
use Rattle.table.specs.Numbers.{running-put}
use borrow.Author.Rules.{rules}
use Rattle.table.proofs.numbers.set_running.Goals as goal

pub returns : goal.returns
unfolding single
returns c =
    running-put _ _ _ (search rules) (search rules) (cc)
