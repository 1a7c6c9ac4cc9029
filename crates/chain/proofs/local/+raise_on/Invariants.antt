use Rattle.chain.proofs.local.+raise_on.Given as goal

abbrev pub decreases-raise_on : goal.decreases-raise_on
decreases-raise_on l = l.left
