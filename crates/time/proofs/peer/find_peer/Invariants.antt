use Rattle.std.proofs.Common.{◌≡◌}
use Rattle.rules.specs.Move.{peer_below}
use Rattle.table.specs.Image.{view}
use Rattle.time.proofs.peer.find_peer.Given as goal

abbrev pub invariant-loop-j : goal.invariant-loop-j
invariant-loop-j l = peer_below l.j l.i (view l.s) ≡ peer_below 32 l.i (view l.s)
