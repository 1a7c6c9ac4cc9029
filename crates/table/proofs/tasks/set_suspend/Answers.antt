use mathlib.Core.List.{[], ◌∷◌}
use Rattle.table.specs.kinds.Task.{made}
use Rattle.table.specs.records.Task.{put}
use borrow.Author.Rules.{rules}
use Rattle.table.proofs.tasks.set_suspend.Goals as goal

pub returns : goal.returns
unfolding made
returns c =
    put _ _ _ 3 (_ ∷ []) (search rules) (search rules) (search rules) (cc)
