use Rattle.columns.specs.Rows.{single}
use Rattle.table.specs.Numbers.{depth-put}
use borrow.Author.Rules.{rules}
use Rattle.table.proofs.numbers.set_depth.Goals as goal

pub returns : goal.returns
unfolding single
returns c =
    depth-put _ _ _ (search rules) (search rules) (cc)
