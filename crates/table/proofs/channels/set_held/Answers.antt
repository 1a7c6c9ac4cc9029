use mathlib.Core.List.{[], ◌∷◌}
use Rattle.table.specs.kinds.Channel.{made}
use Rattle.table.specs.records.Channel.{put}
use borrow.Author.Rules.{rules}
use Rattle.table.proofs.channels.set_held.Goals as goal

pub returns : goal.returns
unfolding made
returns c =
    put _ _ _ 2 (_ ∷ []) (search rules) (search rules) (search rules) (cc)
