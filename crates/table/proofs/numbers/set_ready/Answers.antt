use Rattle.columns.specs.Rows.{single}
use Rattle.table.specs.Numbers.{ready-put}
use borrow.Author.Rules.{rules}
use Rattle.table.proofs.numbers.set_ready.Goals as goal

pub returns : goal.returns
unfolding single
returns c =
    ready-put _ _ _ (search rules) (search rules) (cc)
