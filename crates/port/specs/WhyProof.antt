-- The reason that bytes are given is the right one: what `WhyTheorem` states.
use Rattle.std.specs.Prelude.{◌≡◌, ◌≢◌, List, ℕ, length}
use Rattle.std.proofs.Common.{sym, ap, subst, ◌∙◌, inl, inr, arith}
use Rattle.std.proofs.Math.Decide.{ℕ_discrete}
use Rattle.rules.specs.Sizes.{not_sound}
use Rattle.rules.specs.Sound.{Sound}
use Rattle.rules.specs.Tape.{Bytes}
use Rattle.table.specs.Image.{image_size, view}
use Rattle.table.specs.Shape.{view-shaped}
use Rattle.table.specs.Written.{sound_fits, image-view, view-image}
use Rattle.why.specs.declared.Reason.{Reason}
use Rattle.why.specs.Theorem.{Explains}
use Rattle.why.specs.Explained.{why-exactly}
use Rattle.port.specs.ByteTheorem.{NoImage}
use Rattle.port.specs.ByteProof.{fifteen}
use Rattle.port.specs.Why.{reason_of, reason-wrong, reason_right}
use Rattle.port.specs.WhyTheorem.{WhyFifteen, WhyLength, WhyBroken}

pub why-broken : WhyBroken
why-broken l h = subst (Explains (view l)) (sym (reason_right l h)) (why-exactly (view l) (view-shaped l h))

pub why-length : WhyLength
why-length l = ((λ e h. omega (arith, ap (λ (r : Reason). r.rule) e, (why-broken l h).below)), reason-wrong l)

-- No reason, and the image of a sound table.
module _ (l : List ℕ) where
  no_image : (reason_of l).rule ≢ 0 → NoImage l
  no_image n = go (ℕ_discrete (length l) image_size)
    where
      go : Dec (length l ≡ image_size) → NoImage l
      go (yes h) = inr (λ t s e. n ((why-broken l h).sound.1 (subst Sound (sym (ap view e ∙ image-view (sound_fits s))) s)))
      go (no h) = inl h

  image-sound : Bytes l → (reason_of l).rule ≡ 0 → NoImage l → ⊥
  image-sound b e k = go (ℕ_discrete (length l) image_size) k
    where
      go : Dec (length l ≡ image_size) → NoImage l → ⊥
      go (no h) k = omega (arith, e, ap (λ (r : Reason). r.rule) (reason-wrong l h))
      go (yes h) (inl n) = n h
      go (yes h) (inr n) = n (view l) ((why-broken l h).sound.0 e) (sym (view-image l h b))

pub why-fifteen : WhyFifteen
why-fifteen kind a b c d e f l bytes x v k m g =
    let exactly = (fifteen kind a b c d e f l bytes x v k m g).exactly in
    ((λ z y. image-sound l bytes z (exactly.0 y)), λ n. go (ℕ_discrete (reason_of l).rule 0) n exactly.1)
  where
    go : Dec ((reason_of l).rule ≡ 0) → x ≢ not_sound → (NoImage l → x ≡ not_sound) → (reason_of l).rule ≡ 0
    go (yes z) n back = z
    go (no z) n back = absurd (n (back (no_image l z)))
