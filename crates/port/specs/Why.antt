-- The standing rule that any bytes break first, and the record where.
use Rattle.std.specs.Prelude.{◌≡◌, Bool, List, ℕ, eqb, length}
use Rattle.std.proofs.Math.Path.{ap}
use Rattle.std.proofs.Math.Bool.{cond}
use Rattle.std.proofs.Common.{eq-eqb, ne_eqb}
use Rattle.table.specs.Image.{Image, image_size, view}
use Rattle.why.specs.declared.Reason.{Reason}
use Rattle.why.specs.Tests.{reason, why_of}

-- What is no rule's number: the length is not an image's.
abbrev pub wrong_length : ℕ
wrong_length = 0xFF

unfoldable pub reason_of : List ℕ → Reason
reason_of l = cond (eqb (length l) image_size) (why_of (view l)) (reason wrong_length 0)

module _ (l : List ℕ) where
  pub reason-wrong : (Image l → ⊥) → reason_of l ≡ reason wrong_length 0
  unfolding reason_of
  reason-wrong h = ap (λ (b : Bool). cond b (why_of (view l)) (reason wrong_length 0)) (ne_eqb (length l) image_size h)

  pub reason_right : Image l → reason_of l ≡ why_of (view l)
  unfolding reason_of
  reason_right h = ap (λ (b : Bool). cond b (why_of (view l)) (reason wrong_length 0)) (eq-eqb (length l) image_size h)
