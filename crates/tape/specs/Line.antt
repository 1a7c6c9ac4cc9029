-- One line of a tape's text, and what it is to write it.
use Rattle.std.specs.Prelude.{Bool, true, false, cond, ◌≡◌, refl, List, [], ◌∷◌, ◌++◌, ℕ, ◌+◌, ◌-◌, ◌/◌, ◌%◌, ◌≤◌, eqb, ltb, leb, length, take, drop}
use Rattle.std.proofs.Common.{sym, append_assoc, add-zero, arith, leb-true, le-leb, length-append, take_at, drop-drop, length-take-le}
use Rattle.std.proofs.Common.{ap, ◌∙◌, take_all}
use borrow.Rule.Slice.PartMut.{put_mid}
use Rattle.std.proofs.lemmas.Slice.{put_mid-paste}
use Rattle.std.proofs.lemmas.List.Edits.{sets, sets-eq}
use Rattle.std.proofs.Math.Seq.{paste-zero, drop-append-add}
use Rattle.rules.specs.Tape.{decimal, runner, line, bad_line}
use Rattle.rules.specs.Step.{Outcome}

-- The line of an answer and of the running task: 0 for none, else its number plus 1.
unfoldable pub line_of : (answer runs : ℕ) → List ℕ
line_of answer runs = decimal answer ++ (0x20 ∷ runner runs) ++ (0x0A ∷ [])

pub line_of_lem : (o : Outcome) → line o ≡ line_of o.answer o.runs
unfolding line line_of
line_of_lem o = refl

-- What is written with `room` bytes left: the longest line takes 6.
unfoldable pub line_in : (answer runs room : ℕ) → List ℕ
line_in answer runs room = cond (leb 6 room) (line_of answer runs) []

unfoldable pub bad_in : ℕ → List ℕ
bad_in room = cond (leb 4 room) bad_line []

-- A list with another written over it from `at` on.
unfoldable pub pasted : ℕ → List ℕ → List ℕ → List ℕ
pasted at text l = take at l ++ text ++ drop (at + length text) l

-- `text` was written at `at`, and `end` is where it ends.
pub record Wrote (at : ℕ) (text before after : List ℕ) (end : ℕ) : Type 0 where
  pub list : after ≡ pasted at text before
  pub ends : end ≡ at + length text

-- ---- laws

pub pasted-nothing : (at : ℕ) (l : List ℕ) → l ≡ pasted at [] l
unfolding pasted
pasted-nothing at l = paste-zero l at []

-- What is written behind a text is written with it.
pub pasted-after : (at : ℕ) (a b l : List ℕ) → at ≤ length l → pasted (at + length a) b (pasted at a l) ≡ pasted at (a ++ b) l
unfolding pasted
pasted-after at a b l h =
    let front : length (take at l ++ a) ≡ at + length a = simp (length-append, length-take-le at l h) in
    let e : at + length a + length b ≡ at + length (a ++ b) = simp length-append (omega arith) in
    let t = take_at (take at l ++ a) (drop (at + length a) l) (at + length a) front in
    let d : drop (at + length a + length b) (take at l ++ a ++ drop (at + length a) l) ≡ drop (at + length (a ++ b)) l =
    cc (drop-append-add (take at l ++ a) (drop (at + length a) l) (length b), drop-drop (length b) (at + length a) l) in
    rw (t, d, append_assoc (take at l) a b)

pub wrote_after : {at end end' : ℕ} {a b before after last : List ℕ} → Wrote at a before after end → at ≤ length before → Wrote end b after last end' → Wrote at (a ++ b) before last end'
wrote_after {at = at} {a = a} {b} {before} w h v = record { list = cc (pasted-after at a b before h); ends = simp length-append (omega arith) }

pub wrote_nothing : (at : ℕ) (l : List ℕ) → Wrote at [] l l at
wrote_nothing at l = record { list = pasted-nothing at l; ends = sym (add-zero at) }

pub wrote-bytes : (at : ℕ) (text l : List ℕ) → at + length text ≤ length l → Wrote at text l (sets l at text) (at + length text)
unfolding pasted
wrote-bytes at text l h = record { list = sets-eq text l at h; ends = refl }

-- And so is what was copied into its place.
pub wrote-part : (at k : ℕ) (text part l : List ℕ) → k ≡ length text → part ≡ text → Wrote at text l (put_mid at k l part) (at + length text)
unfolding pasted
wrote-part at k text part l e p = record {
  list = put_mid-paste at k l part text (length text) p (sym e) refl ∙ ap (λ (t : List ℕ). take at l ++ t ++ drop (at + length text) l) (take_all (length text) text (omega arith));
  ends = refl;
}

-- ---- what fits

pub line_in_lem : (answer runs room : ℕ) → 6 ≤ room → line_in answer runs room ≡ line_of answer runs
unfolding line_in
line_in_lem answer runs room h = rw (le-leb 6 room h)

pub bad_in_lem : (room : ℕ) → 4 ≤ room → bad_in room ≡ bad_line
unfolding bad_in
bad_in_lem room h = rw (le-leb 4 room h)

pub decimal-short : (n : ℕ) → length (decimal n) ≤ 2
unfolding decimal
decimal-short n = go (ltb n 10) where
  go : (b : Bool) → length (cond b ((48 + n) ∷ []) ((48 + n / 10) ∷ (48 + n % 10) ∷ [])) ≤ 2
  go true = omega arith
  go false = omega arith

pub runner-short : (v : ℕ) → length (runner v) ≤ 2
unfolding runner
runner-short v = go (eqb v 0) where
  go : (b : Bool) → length (cond b (0x2D ∷ []) (decimal (v - 1))) ≤ 2
  go true = omega arith
  go false = decimal-short (v - 1)

pub line-short : (answer runs : ℕ) → length (line_of answer runs) ≤ 6
unfolding line_of
line-short answer runs = simp length-append (omega (arith, decimal-short answer, runner-short runs))

either-short : (b : Bool) (text : List ℕ) (room : ℕ) → (b ≡ true → length text ≤ room) → length (cond b text []) ≤ room
either-short true text room h = h refl
either-short false text room h = omega arith

-- What is written fits.
pub line_in-short : (answer runs room : ℕ) → length (line_in answer runs room) ≤ room
unfolding line_in
line_in-short answer runs room =
    either-short (leb 6 room) (line_of answer runs) room (λ e. omega (arith, line-short answer runs, leb-true 6 room e))

pub bad_in-short : (room : ℕ) → length (bad_in room) ≤ room
unfolding bad_in
bad_in-short room = either-short (leb 4 room) bad_line room (leb-true 4 room)
