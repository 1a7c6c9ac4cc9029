use mathlib.Core.List.{[], ◌∷◌}
use Rattle.columns.specs.Words.{then}
use Rattle.table.specs.kinds.Mutex.{made}
use Rattle.table.specs.records.Mutex.{put}
use borrow.Author.Rules.{rules}
use Rattle.table.proofs.mutexes.set_hold.Goals as goal

pub returns : goal.returns
unfolding made
returns c =
    put _ _ _ 1 (_ ∷ _ ∷ []) (search rules) (search rules) (search rules) (then _ _ _ _ _ _ c.put-2.ensures.0 c.put.ensures.0)
