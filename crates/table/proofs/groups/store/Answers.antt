use Rattle.columns.specs.Words.{then}
use Rattle.table.specs.kinds.Group.{made, row}
use Rattle.table.specs.records.Group.{put}
use borrow.Author.Rules.{rules}
use Rattle.table.proofs.groups.store.Goals as goal

pub returns : goal.returns
unfolding made
returns c =
    put _ _ _ 0 (row _) (search rules) (search rules) (search rules) (then _ _ _ _ _ _ c.put-2.ensures.0 c.put.ensures.0)
