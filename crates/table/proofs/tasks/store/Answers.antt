use Rattle.columns.specs.Words.{then}
use lib.ListN.{drop}
use Rattle.table.specs.kinds.Task.{made, row}
use Rattle.table.specs.records.Task.{put_then}
use borrow.Author.Rules.{rules}
use Rattle.table.proofs.tasks.store.Goals as goal

pub returns : goal.returns
unfolding made
returns c =
    put_then _ _ _ _ 10 (drop 10 (row c.args.k)) _ (search rules) (search rules) (search rules) (search rules) c.store_bytes.ensures
    (then _ _ _ _ _ _ c.put-5.ensures.0
    (then _ _ _ _ _ _ c.put-4.ensures.0
    (then _ _ _ _ _ _ c.put-3.ensures.0
    (then _ _ _ _ _ _ c.put-2.ensures.0
    c.put.ensures.0))))
