use Rattle.std.proofs.Common.{ℕ, leb, sym, ap, ◌∙◌}
use Rattle.table.specs.Image.{view}
use Rattle.time.specs.Peers.{plain_below}
use Rattle.time.proofs.PeerLaws.{alone_no_task, alone_not_plain, alone-counted}
use Rattle.time.proofs.peer.is_alone.Goals as goal

pub returns-then-i-ge-TASKS : goal.returns-then-i-ge-TASKS
returns-then-i-ge-TASKS c =
    alone_no_task _ _ c.if-i-ge-TASKS.true

pub returns-then-get_state-ne-PLAIN : goal.returns-then-get_state-ne-PLAIN
returns-then-get_state-ne-PLAIN c =
    alone_not_plain _ _ c.if-i-ge-TASKS.false (λ e. c.if-get_state-ne-PLAIN.true (c.get_state.ensures ∙ e))

pub returns : goal.returns
returns c =
    let t = view c.args.s.now in
    let n = c.plain_with.ensures ∙ ap (λ (w : ℕ). plain_below 32 w t) c.get_work-w.ensures in
    ap (λ (x : ℕ). leb x 1) n ∙ alone-counted _ t c.if-i-ge-TASKS.false (sym c.get_state.ensures ∙ c.if-get_state-ne-PLAIN.false)
