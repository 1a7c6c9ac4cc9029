use native.Mathlib.Omega.{arith}
use Rattle.table.specs.Image.{view}
use Rattle.table.specs.Shape.{view-shaped}
use Rattle.table.proofs.Laid.{no_slot}
use Rattle.table.proofs.messages.put_slot.Goals as goal

pub returns-then-j-ge-MOST_MESSAGES : goal.returns-then-j-ge-MOST_MESSAGES
returns-then-j-ge-MOST_MESSAGES c =
    let l = c.args.s.now in
    no_slot (view l) (view-shaped l (omega arith)) c.args.c c.requires c.args.j c.args.v c.if-j-ge-MOST_MESSAGES.true
