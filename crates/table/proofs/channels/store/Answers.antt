use Rattle.columns.specs.Words.{then}
use Rattle.table.specs.kinds.Channel.{made, row}
use Rattle.table.specs.records.Channel.{put}
use borrow.Author.Rules.{rules}
use Rattle.table.proofs.channels.store.Goals as goal

pub returns : goal.returns
unfolding made
returns c =
    put _ _ _ 0 (row _) (search rules) (search rules) (search rules)
    (then _ _ _ _ _ _ c.put-3.ensures.0 (then _ _ _ _ _ _ c.put-2.ensures.0 c.put.ensures.0))
