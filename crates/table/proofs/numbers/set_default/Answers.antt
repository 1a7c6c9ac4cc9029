use Rattle.columns.specs.Rows.{single}
use Rattle.table.specs.Numbers.{default_put}
use borrow.Author.Rules.{rules}
use Rattle.table.proofs.numbers.set_default.Goals as goal

pub returns : goal.returns
unfolding single
returns c =
    default_put _ _ _ (search rules) (search rules) (cc)
