use mathlib.Core.Bool.{Bool, true, false, cond}
use mathlib.Core.Path.{◌≡◌, refl, ap, ◌∙◌}
use Prim.Native.Nat.{ℕ}
use Rattle.std.specs.Prelude.{Some, None, length, ltb, List}
use Rattle.std.specs.Bool.{then_some}
use Rattle.queue.specs.Slots.{place_of}
use Rattle.queue.specs.Answers.{found_in}
use Rattle.queue.proofs.find.Goals as goal

chosen : (b : Bool) (n : ℕ) → then_some b n ≡ cond b (Some n) None
chosen true n = refl
chosen false n = refl

found : (id : ℕ) (l : List ℕ) (at : ℕ) → at ≡ place_of id l → then_some (ltb at (length l)) at ≡ found_in id l
unfolding found_in
found id l at e = ap (λ (n : ℕ). then_some (ltb n (length l)) n) e ∙ chosen _ _

pub returns : goal.returns
returns c = c.then_some.ensures ∙ found _ _ _ c.slot_of-at.ensures
