-- A play on the way: n cues are out, and there is room for m more.
use mathlib.Core.Path.{◌≡◌, refl, sym, ap, subst, ◌∙◌}
use mathlib.Core.List.{List, [], ◌∷◌, ◌++◌}
use Prim.Native.Nat.{ℕ, zero, suc, ◌+◌, ◌-◌, ◌≤◌, ◌<◌}
use native.Mathlib.Omega.{arith}
use lib.ListN.{length, take, drop, set, length-set, take-append-drop}
use lib.Seq.{take-suc-set, drop-set-lt, drop-cons, append_snoc, take-append_seam}
use Rattle.queue.specs.Slots.{without}
use Rattle.queue.specs.Answers.{head_of}
use Rattle.std.specs.Prelude.{Some, None}
use Rattle.cues.specs.Plays.{with_first, played, left, over, Played}
use Rattle.cues.specs.Evening.{Rising, InOrder, evening, PlayedInOrder}
use Rattle.cues.specs.InOrder.{played-rising, plays_in_order}

pub record Going (l₀ out₀ : List ℕ) (n m : ℕ) (l out : List ℕ) : Type 0 where
  room : n + m ≡ length out
  told : take n out ++ over (played m l) (drop n out) ≡ over (played (length out₀) l₀) out₀
  many : n + length (played m l) ≡ length (played (length out₀) l₀)
  rest : left m l ≡ left (length out₀) l₀

pub going_start : (l out : List ℕ) (m : ℕ) → m ≡ length out → Going l out 0 m l out
going_start l out m e = record {
  room = omega (arith, e);
  told = ap (λ (j : ℕ). over (played j l) out) e;
  many = omega (arith, ap (λ (j : ℕ). length (played j l)) e);
  rest = ap (λ (j : ℕ). left j l) e;
}

-- The cue that comes next comes before those that come after it.
over_next : (cue : ℕ) (p out : List ℕ) (n : ℕ) → n < length out → over (cue ∷ p) (drop n out) ≡ cue ∷ over p (drop (suc n) out)
unfolding over
over_next cue p out n h = ap (λ (d : List ℕ). (cue ∷ p) ++ drop (suc (length p)) d) (drop-cons out n 0 h)

module _ {l₀ out₀ : List ℕ} {n : ℕ} {l out : List ℕ} where
  going_on : (m k : ℕ) (cue : ℕ) → m ≡ suc k → n < length out → head_of l ≡ Some cue → Going l₀ out₀ n m l out → Going l₀ out₀ (n + 1) k (without cue l) (set out n cue)
  unfolding played left
  going_on m k cue s h e g = subst (λ (j : ℕ). Going l₀ out₀ j k (without cue l) (set out n cue)) (omega arith) next
    where
      p : List ℕ
      p = played k (without cue l)

      first : played m l ≡ cue ∷ p
      first = ap (λ (j : ℕ). played j l) s ∙ ap (λ w. with_first w (λ cue. cue ∷ played k (without cue l)) []) e

      next : Going l₀ out₀ (suc n) k (without cue l) (set out n cue)
      next = record {
        room = omega (arith, g.room, s, length-set out n cue);
        told =
            rw (take-suc-set out n cue h, drop-set-lt (suc n) out n cue (omega arith)) (append_snoc (take n out) cue (over p (drop (suc n) out)))
            ∙ ap (λ (r : List ℕ). take n out ++ r) (sym (over_next cue p out n h) ∙ ap (λ (r : List ℕ). over r (drop n out)) (sym first))
            ∙ g.told;
        many = omega (arith, g.many, ap length first);
        rest = sym (ap (λ (j : ℕ). left j l) s ∙ ap (λ w. with_first w (λ cue. left k (without cue l)) l) e) ∙ g.rest;
      }

  -- A turn of the loop.
  pub going_turn : {l' : List ℕ} (cue : ℕ) → n < length out → head_of l ≡ Some cue → l' ≡ without cue l → Going l₀ out₀ n (length out - n) l out
      → Going l₀ out₀ (n + 1) (length (set out n cue) - (n + 1)) l' (set out n cue)
  going_turn cue h e w g =
      let s : length out - n ≡ suc (length (set out n cue) - (n + 1)) = omega (arith, length-set out n cue) in
      subst (λ (m : List ℕ). Going l₀ out₀ (n + 1) (length (set out n cue) - (n + 1)) m (set out n cue)) (sym w) (going_on (length out - n) _ cue s h e g)

  -- Nothing more comes out.
  ended : (m : ℕ) → played m l ≡ [] → left m l ≡ l → Going l₀ out₀ n m l out → Played l₀ out₀ n l out
  unfolding over
  ended m p q g = record {
    many = omega (arith, ap length p, g.many);
    told = sym (take-append-drop n out) ∙ ap (λ (r : List ℕ). take n out ++ over r (drop n out)) (sym p) ∙ g.told;
    rest = sym q ∙ g.rest;
  }

  pub going_nobody : (m : ℕ) → head_of l ≡ None → Going l₀ out₀ n m l out → Played l₀ out₀ n l out
  unfolding played left
  going_nobody zero e = ended zero refl refl
  going_nobody (suc m) e = ended (suc m) (ap (λ w. with_first w (λ cue. cue ∷ played m (without cue l)) []) e) (ap (λ w. with_first w (λ cue. left m (without cue l)) l) e)

  pub going_full : (m : ℕ) → m ≡ 0 → Going l₀ out₀ n m l out → Played l₀ out₀ n l out
  unfolding played left
  going_full m e = ended m (ap (λ (j : ℕ). played j l) e) (ap (λ (j : ℕ). left j l) e)

-- What came out is in order.
pub played_out : {l out l' out' : List ℕ} {r : ℕ} → Played l out r l' out' → PlayedInOrder l out r l' out'
unfolding over
played_out {l} {out} {out' = out'} {r} p = record {
  played = p;
  rising = λ levels o. subst (Rising levels) (sym came) (played-rising levels (length out) o);
  in_order = λ steps d o e room.
      let n = length out in
      let queue = (evening steps d).queue in
      let there : length queue ≤ n = omega (arith, room, ap length e) in
      subst (InOrder (evening steps d).levels (evening steps d).came) (sym (came ∙ ap (played n) e)) (plays_in_order steps d o n there);
}
  where
    came : take r out' ≡ played (length out) l
    came =
        let cues = played (length out) l in
        ap (take r) p.told ∙ ap (λ (j : ℕ). take j (over cues out)) p.many ∙ take-append_seam cues (drop (length cues) out)
