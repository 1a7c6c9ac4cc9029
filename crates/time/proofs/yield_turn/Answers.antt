use Rattle.std.proofs.Common.{refl, eq-eqb, ne_eqb}
use Rattle.rules.specs.Time.{yield_answer, yield}
use Rattle.service.specs.Serving.{refused, served}
use Rattle.time.proofs.yield_turn.Goals as goal

pub returns-then-get_running-eq0 : goal.returns-then-get_running-eq0
unfolding yield_answer
returns-then-get_running-eq0 c =
    refused (rw (← c.get_running.ensures, eq-eqb _ _ c.if-get_running-eq0.true)) refl

pub returns-then-get_depth-ne0 : goal.returns-then-get_depth-ne0
unfolding yield_answer
returns-then-get_depth-ne0 c =
    refused (rw (← c.get_running.ensures, ne_eqb _ _ c.if-get_running-eq0.false, ← c.get_depth.ensures, ne_eqb _ _ c.if-get_depth-ne0.true)) refl

pub returns-then-not-has_peer : goal.returns-then-not-has_peer
unfolding yield_answer
returns-then-not-has_peer c =
    refused (rw (← c.caller_of-i.ensures.0, ← c.has_peer.ensures, ← c.get_depth.ensures, c.if-not-has_peer.true, c.if-get_depth-ne0.false, ← c.get_running.ensures, ne_eqb _ _ c.if-get_running-eq0.false)) refl

pub returns : goal.returns
unfolding yield_answer yield
returns c =
    served (rw (← c.caller_of-i.ensures.0, ← c.has_peer.ensures, ← c.get_depth.ensures, c.if-not-has_peer.false, c.if-get_depth-ne0.false, ← c.get_running.ensures, ne_eqb _ _ c.if-get_running-eq0.false)) refl (cc)
