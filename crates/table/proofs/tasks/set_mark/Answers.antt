use mathlib.Core.List.{[], ◌∷◌}
use Rattle.table.specs.kinds.Task.{made}
use Rattle.table.specs.records.Task.{put, put_then}
use borrow.Author.Rules.{rules}
use Rattle.table.proofs.tasks.set_mark.Goals as goal

pub returns : goal.returns
unfolding made
returns c =
    put_then _ _ _ _ 12 (_ ∷ []) _ (search rules) (search rules) (search rules) (search rules)
    (put _ _ _ 6 (_ ∷ []) (search rules) (search rules) (search rules) c.put.ensures.0)
    c.put-2.ensures.0
