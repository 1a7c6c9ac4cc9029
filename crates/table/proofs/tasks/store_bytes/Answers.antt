use Rattle.columns.specs.Words.{then}
use lib.ListN.{take, drop}
use Rattle.table.specs.kinds.Task.{made, row}
use Rattle.table.specs.records.Task.{put_then}
use borrow.Author.Rules.{rules}
use Rattle.table.proofs.tasks.store_bytes.Goals as goal

pub returns : goal.returns
unfolding made
returns c =
    put_then _ _ _ _ 6 (take 4 (drop 6 (row c.args.k))) _ (search rules) (search rules) (search rules) (search rules) c.store_first.ensures
    (then _ _ _ _ _ _ c.put-4.ensures.0
    (then _ _ _ _ _ _ c.put-3.ensures.0
    (then _ _ _ _ _ _ c.put-2.ensures.0
    c.put.ensures.0)))
