use mathlib.Core.Path.{sym, ◌∙◌}
use native.Mathlib.Omega.{arith}
use Rattle.queue.specs.Slide.{slid-within, slid_past_from, slid_past_to}
use Rattle.queue.proofs.slides.slide.Goals as goal

pub returns-then-ids-from : goal.returns-then-ids-from
returns-then-ids-from c =
    sym (slid_past_from _ _ _ _ c.if-ids-from.true)

pub returns-then-ids-to : goal.returns-then-ids-to
returns-then-ids-to c =
    sym (slid_past_to _ _ _ _ (omega arith) c.if-ids-to.true)

pub returns-then-from-to : goal.returns-then-from-to
returns-then-from-to c =
    c.slide_on.ensures ∙ sym (slid-within _ _ _ _ (omega arith) (omega arith))

pub returns : goal.returns
returns c =
    c.slide_back.ensures ∙ sym (slid-within _ _ _ _ (omega arith) (omega arith))
