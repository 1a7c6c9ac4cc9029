use mathlib.Core.List.{[], ◌∷◌}
use Rattle.table.specs.kinds.Group.{made}
use Rattle.table.specs.records.Group.{put}
use borrow.Author.Rules.{rules}
use Rattle.table.proofs.groups.set_flags.Goals as goal

pub returns : goal.returns
unfolding made
returns c =
    put _ _ _ 1 (_ ∷ []) (search rules) (search rules) (search rules) (cc)
