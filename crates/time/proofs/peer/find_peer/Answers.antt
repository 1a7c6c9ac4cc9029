use Rattle.std.proofs.Common.{◌≡◌, suc, ◌-◌, sym, ◌∙◌, arith}
use Rattle.table.specs.Image.{view}
use Rattle.time.proofs.PeerLaws.{peer_turn, peer_none}
use Rattle.time.proofs.peer.find_peer.Goals as goal

pub returns-then-is_peer : goal.returns-then-is_peer
returns-then-is_peer c =
    let l = c.loop-j in
    let s : l.j ≡ suc (l.j - 1) = omega arith in
    let a = c.args in
    let turn = peer_turn _ _ a.i _ (view a.s.now) s c.work_at-w.ensures c.is_peer.ensures in
    sym (rw c.if-is_peer.true at turn) ∙ l.invariant

pub loop-j-preserved : goal.loop-j-preserved
loop-j-preserved c =
    let l = c.loop-j in
    let s : l.j ≡ suc (l.j - 1) = omega arith in
    let a = c.args in
    let turn = peer_turn _ _ a.i _ (view a.s.now) s c.work_at-w.ensures c.is_peer.ensures in
    sym (rw c.if-is_peer.false at turn) ∙ l.invariant

pub returns : goal.returns
returns c =
    sym (peer_none _ _ _ c.loop-j-test.false) ∙ c.loop-j.invariant
