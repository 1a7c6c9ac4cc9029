use Rattle.chain.proofs.local.+lower_on.Given as goal

abbrev pub decreases-lower_on : goal.decreases-lower_on
decreases-lower_on l = l.left
