use Rattle.std.proofs.Common.{◌≡◌, ◌≤◌}
use Rattle.table.specs.Image.{view}
use Rattle.time.specs.Peers.{plain_below}
use Rattle.time.proofs.peer.plain_with.Given as goal

abbrev pub invariant-loop-j : goal.invariant-loop-j
invariant-loop-j l = (l.n ≤ l.j) × (l.n ≡ plain_below l.j l.w (view l.s))
