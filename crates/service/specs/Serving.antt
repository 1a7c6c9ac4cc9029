-- How a service ends: refused, or done; and what goes on was accepted.
use Rattle.std.specs.Prelude.{◌≡◌, refl, Bool, true, false, not, List, ℕ, Result, Ok, Err, IsErrAnd}
use Rattle.std.proofs.Common.{sym, ap, ◌∙◌, true≢false}
use Rattle.std.proofs.lemmas.Bool.{not-true, not-false}
use Rattle.rules.specs.Table.{Table}
use Rattle.rules.specs.Step.{changes, answer_to}
use Rattle.rules.specs.declared.Call.{Call}
use Rattle.laws.specs.numbers.Presumes.{Presumes, answers}
use Rattle.table.specs.Image.{view}
use Rattle.service.specs.Served.{Served}
use Rattle.service.specs.Answers.{refusal_number, number_of, refusal-keeps}
use Rattle.service.specs.declared.answers.Done.{Done}
use Rattle.service.specs.declared.answers.Refusal.{Refusal}

-- the answer is the rules' and changes nothing: the bytes are as they came
pub refused : {n r : ℕ} {new : Table} {l : List ℕ} → r ≡ n → changes r ≡ false → Served n new r l l
refused e f = record { says = e; done = λ g. absurd (true≢false (sym g ∙ f)); kept = λ _. refl }

-- a check stopped the call: no refusal changes anything
pub stopped : {n : ℕ} {new : Table} {l : List ℕ} (r : Refusal) → refusal_number r ≡ n → Served n new (refusal_number r) l l
stopped r e = refused e (refusal-keeps r)

-- the same at a `?`, which hands the check's refusal on
pub handed-on : {n : ℕ} {new : Table} {l : List ℕ} (r : Refusal) (answer : Result Done Refusal) → IsErrAnd answer (λ e. e ≡ r) → refusal_number r ≡ n → Served n new (number_of answer) l l
handed-on r (Err e) h is = stopped e (ap refusal_number h ∙ is)
handed-on r (Ok d) h is = absurd h

-- the answer is the rules' and changes: the bytes show the new table
pub served : {n r : ℕ} {new : Table} {l m : List ℕ} → r ≡ n → changes r ≡ true → view m ≡ new → Served n new r l m
served e f g = record { says = e; done = λ _. g; kept = λ h. absurd (true≢false (sym f ∙ h)) }

-- ---- the end of a service by the number r of its answer: refused where b says so, and else the change, the choice, and r

module _ {n r : ℕ} {b : Bool} (e : r ≡ n) (f : b ≡ not (changes r)) where
  pub refuse : {new : Table} {l : List ℕ} → b ≡ true → Served n new r l l
  refuse h = refused e (not-true (changes r) (sym f ∙ h))

  pub serve : {new : Table} {l m : List ℕ} → b ≡ false → view m ≡ new → Served n new r l m
  serve h = served e (not-false (changes r) (sym f ∙ h))

  pub goes_on : b ≡ false → changes n ≡ true
  goes_on h = rw e at (not-false (changes r) (sym f ∙ h))

-- ---- a service whose answer came with a first change a: refused, begun, and ended with the rest of the change

module _ {n r : ℕ} {a : Table} {l m : List ℕ} {b : Bool} (d : Served n a r l m) (f : b ≡ not (changes r)) where
  pub refuse_on : {new : Table} → b ≡ true → Served n new r l m
  refuse_on h = record { says = d.says; done = λ g. absurd (true≢false (sym g ∙ not-true (changes r) (sym f ∙ h))); kept = d.kept }

  pub begun : b ≡ false → view m ≡ a
  begun h = d.done (not-false (changes r) (sym f ∙ h))

  pub serve_on : {new : Table} {k : List ℕ} → b ≡ false → view k ≡ new → Served n new r l k
  serve_on h = served d.says (not-false (changes r) (sym f ∙ h))

-- A call that a part of its service served, in the words of the whole.
pub told : {n n' r : ℕ} {new new' : Table} {l m : List ℕ} → n ≡ n' → new ≡ new' → Served n new r l m → Served n' new' r l m
told e f s = record { says = s.says ∙ e; done = λ g. s.done g ∙ f; kept = s.kept }

-- A call that goes on was accepted, with all that this tells of its numbers.
pub accepted : (c : Call) (t : Table) → changes (answer_to c t) ≡ true → Presumes c t
accepted c t h = (answers false t c).holds h
