use native.Mathlib.Omega.{arith}
use Rattle.std.proofs.Common.{sym, ◌∙◌}
use Rattle.table.specs.Image.{view}
use Rattle.table.specs.Shape.{view-shaped}
use Rattle.time.proofs.PeerLaws.{alone_none, second-peer}
use Rattle.time.proofs.peer.has_peer.Goals as goal

pub returns-then-is_alone : goal.returns-then-is_alone
returns-then-is_alone c =
    sym (alone_none _ _ (sym c.is_alone.ensures ∙ c.if-is_alone.true))

pub returns-then-is_second_peer : goal.returns-then-is_second_peer
returns-then-is_second_peer c =
    let l = c.args.s.now in
    sym (second-peer c.args.i (view l) (view-shaped l (omega arith)).tasks (sym c.is_second_peer.ensures ∙ c.if-is_second_peer.true))
