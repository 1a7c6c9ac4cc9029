-- What the answers that every kind has tell of a call: where one goes on its number is in range, and a wait has the answer of its kind.
use Rattle.std.specs.Prelude.{◌≡◌, refl, Bool, true, false, cond, not, List, ℕ, ◌<◌, eqb, ltb, leb}
use Rattle.std.proofs.Common.{sym, ap, ◌∙◌, true≢false, leb-false}
use Rattle.std.proofs.lemmas.Bool.{false≢true, not-true}
use Rattle.rules.specs.Sizes.{done, beyond_range, not_in_use, none_running, bad_value}
use Rattle.rules.specs.Table.{Table, is_used}
use Rattle.rules.specs.Step.{changes}
use Rattle.rules.specs.Time.{by_caller}
use Rattle.rules.specs.Family.{Family}
use Rattle.rules.specs.Object.{on_object, create_object, yes_no, wait_answer_on}
use Rattle.service.specs.Served.{Served}
use Rattle.service.specs.Serving.{refuse, goes_on, told}

-- A number beyond the range is refused, whatever the answer within it.
within : (count o answer : ℕ) → changes (cond (leb count o) beyond_range answer) ≡ true → o < count
within count o answer h = go (leb count o) refl h
  where
    go : (b : Bool) → leb count o ≡ b → changes (cond b beyond_range answer) ≡ true → o < count
    go true e g = absurd (false≢true g)
    go false e g = leb-false count o e

module _ (count o used : ℕ) {r : ℕ} {b : Bool} where
  pub create-range : r ≡ create_object count o used → b ≡ not (changes r) → b ≡ false → o < count
  create-range e g h = within count o _ (goes_on e g h)

  pub object-range : (answer : ℕ) → r ≡ on_object count o used answer → b ≡ not (changes r) → b ≡ false → o < count
  object-range answer e g h = within count o _ (goes_on e g h)

-- ---- a wait: `object` asks first what every kind asks, with `done` in the place of the kind's answer

-- The refusals before it: nobody runs, the number is beyond the range or not in use, the yes/no byte is above 1.
abbrev asking : (nobody beyond free bad : Bool) (answer : ℕ) → ℕ
asking nobody beyond free bad answer = cond nobody none_running (cond beyond beyond_range (cond free not_in_use (cond bad bad_value answer)))

module _ (answer : ℕ) where
  passes : (nobody beyond free bad : Bool) → changes (asking nobody beyond free bad done) ≡ true → answer ≡ asking nobody beyond free bad answer
  passes true beyond free bad h = absurd (false≢true h)
  passes false true free bad h = absurd (false≢true h)
  passes false false true bad h = absurd (false≢true h)
  passes false false false true h = absurd (false≢true h)
  passes false false false false h = refl

  stops : (nobody beyond free bad : Bool) → changes (asking nobody beyond free bad done) ≡ false → asking nobody beyond free bad done ≡ asking nobody beyond free bad answer
  stops true beyond free bad h = refl
  stops false true free bad h = refl
  stops false false true bad h = refl
  stops false false false true h = refl
  stops false false false false h = absurd (true≢false h)

runs-within : (nobody : Bool) (count o answer : ℕ) → changes (cond nobody none_running (cond (leb count o) beyond_range answer)) ≡ true → o < count
runs-within true count o answer h = absurd (false≢true h)
runs-within false count o answer h = within count o answer h

-- The number's byte is u, and what `object` answered is r.
module _ (f : Family) (o block : ℕ) (t : Table) {u r : ℕ} {b : Bool} (byte : u ≡ f.used t o) (e : r ≡ by_caller t (on_object f.count o u (yes_no block done))) (g : b ≡ not (changes r)) where
  asks : r ≡ wait_answer_on f o block done t
  asks = e ∙ ap (λ (x : ℕ). by_caller t (on_object f.count o x (yes_no block done))) byte

  -- where the kind is not asked, the refusal is the wait's
  pub not_asked : (answer : ℕ) {new : Table} {l : List ℕ} → b ≡ true → Served (wait_answer_on f o block answer t) new r l l
  not_asked answer h =
      let no : changes (wait_answer_on f o block done t) ≡ false = rw asks at (not-true (changes r) (sym g ∙ h)) in
      refuse (asks ∙ stops answer (eqb t.running 0) (leb f.count o) (not (is_used (f.used t o))) (ltb 1 block) no) g h

  -- where it is, the number is in range, and what serves the kind's answer serves the wait
  pub asked-range : b ≡ false → o < f.count
  asked-range h = runs-within (eqb t.running 0) f.count o _ (goes_on asks g h)

  pub asked : (answer : ℕ) {n : ℕ} {new : Table} {l m : List ℕ} → b ≡ false → Served answer new n l m → Served (wait_answer_on f o block answer t) new n l m
  asked answer h s = told (passes answer (eqb t.running 0) (leb f.count o) (not (is_used (f.used t o))) (ltb 1 block) (goes_on asks g h)) refl s
