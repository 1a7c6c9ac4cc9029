use mathlib.Core.List.{[], ◌∷◌}
use Rattle.table.specs.kinds.Task.{made}
use Rattle.table.specs.records.Task.{put}
use borrow.Author.Rules.{rules}
use Rattle.table.proofs.tasks.set_left.Goals as goal

pub returns : goal.returns
unfolding made
returns c =
    put _ _ _ 11 (_ ∷ []) (search rules) (search rules) (search rules) (cc)
