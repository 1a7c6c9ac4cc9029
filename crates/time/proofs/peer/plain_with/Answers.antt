use Rattle.std.proofs.Common.{arith}
use Rattle.rules.proofs.Tested.{once_most}
use Rattle.rules.specs.Table.{task_of}
use Rattle.table.specs.Image.{view}
use Rattle.time.specs.Peers.{is_plain_with}
use Rattle.time.proofs.PeerLaws.{plain_none, plain_next}
use Rattle.time.proofs.peer.plain_with.Goals as goal

pub loop-j-init : goal.loop-j-init
loop-j-init c =
    let a = c.args in (omega arith, plain_none a.w (view a.s.now))

pub loop-j-preserved : goal.loop-j-preserved
loop-j-preserved c =
    let a = c.args in
    let t = view a.s.now in
    omega (arith, c.counts_as-n.ensures, once_most (is_plain_with a.w (task_of t c.loop-j.j)), plain_next a.w t c.loop-j.j)
