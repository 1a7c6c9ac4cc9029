use mathlib.Core.List.{[], ◌∷◌}
use Rattle.table.specs.kinds.Semaphore.{made}
use Rattle.table.specs.records.Semaphore.{put}
use borrow.Author.Rules.{rules}
use Rattle.table.proofs.semaphores.set_count.Goals as goal

pub returns : goal.returns
unfolding made
returns c =
    put _ _ _ 1 (_ ∷ []) (search rules) (search rules) (search rules) (cc)
