use mathlib.Core.List.{[], ◌∷◌}
use Rattle.columns.specs.Words.{then}
use Rattle.table.specs.kinds.Task.{made}
use Rattle.table.specs.records.Task.{put, put_then}
use borrow.Author.Rules.{rules}
use Rattle.table.proofs.tasks.set_state.Goals as goal

pub returns : goal.returns
unfolding made
returns c =
    put_then _ _ _ _ 13 (_ ∷ []) _ (search rules) (search rules) (search rules) (search rules)
    (put_then _ _ _ _ 8 (_ ∷ _ ∷ []) _ (search rules) (search rules) (search rules) (search rules)
    (put _ _ _ 4 (_ ∷ _ ∷ []) (search rules) (search rules) (search rules) (then _ _ _ _ _ _ c.put-2.ensures.0 c.put.ensures.0))
    (then _ _ _ _ _ _ c.put-4.ensures.0 c.put-3.ensures.0))
    c.put-5.ensures.0
