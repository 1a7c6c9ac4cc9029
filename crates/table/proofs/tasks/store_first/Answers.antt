use Rattle.columns.specs.Words.{then}
use lib.ListN.{take}
use Rattle.table.specs.kinds.Task.{made, row}
use Rattle.table.specs.records.Task.{put}
use borrow.Author.Rules.{rules}
use Rattle.table.proofs.tasks.store_first.Goals as goal

pub returns : goal.returns
unfolding made
returns c =
    put _ _ _ 0 (take 6 (row c.args.k)) (search rules) (search rules) (search rules)
    (then _ _ _ _ _ _ c.put-6.ensures.0
    (then _ _ _ _ _ _ c.put-5.ensures.0
    (then _ _ _ _ _ _ c.put-4.ensures.0
    (then _ _ _ _ _ _ c.put-3.ensures.0
    (then _ _ _ _ _ _ c.put-2.ensures.0
    c.put.ensures.0)))))
