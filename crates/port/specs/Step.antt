-- What the port answers, and the bytes that it leaves, for any bytes of any length.
use Rattle.std.specs.Prelude.{◌≡◌, Some, None, cond, List, [], ◌∷◌, ℕ, ◌/◌, ◌%◌, eqb, length}
use Rattle.std.proofs.Common.{sym, ◌∙◌}
use Rattle.rules.specs.Sizes.{done, beyond_range, by_interrupt, not_sound}
use Rattle.rules.specs.Table.{Table, fresh_table}
use Rattle.rules.specs.Step.{Outcome, serve, unsound, changes}
use Rattle.rules.specs.Kinds.{reading}
use Rattle.rules.specs.Port.{port_step}
use Rattle.rules.specs.declared.Reading.{Reading}
use Rattle.table.specs.Image.{image_size, view, image_of}

-- The library's version, which the header has too: 1.6.0.
abbrev pub version : ℕ
version = 10700

-- Where the bytes are an image's by their length, what the rules say of the table that they show; else 15.
unfoldable pub sized : (Table → Outcome) → List ℕ → Outcome
sized rule l = let o = rule (view l) in cond (eqb (length l) image_size) o (unsound (view l))

unfoldable pub outcome_of : (kind a b c d e f : ℕ) → List ℕ → Outcome
outcome_of kind a b c d e f l = sized (port_step kind a b c d e f) l

-- ---- the same without the test of the table

-- What a kind says with its numbers.
abbrev pub said : (kind a b c d e f : ℕ) → Reading
said kind a b c d e f = reading kind (a ∷ b ∷ c ∷ d ∷ e ∷ f ∷ [])

unfoldable pub plainly : Reading → Table → Outcome
plainly r t = elim (r.call) as (λ _. Outcome) [
  | Some c ↦ serve c r.interrupt t
  | None ↦ record { answer = cond r.interrupt by_interrupt beyond_range; table = t; runs = t.running; further = 0 }
]

unfoldable pub serve_of : (kind a b c d e f : ℕ) → List ℕ → Outcome
serve_of kind a b c d e f l = sized (plainly (said kind a b c d e f)) l

-- ---- the bytes at exit

-- Where the answer changes anything, the image of the new table; else the bytes that came.
unfoldable pub bytes_after : Outcome → List ℕ → List ℕ
bytes_after o l = cond (changes o.answer) (image_of o.table) l

-- From the bytes l: the answer x, the task v to run, the further result k, and the bytes m at exit are those of the outcome o.
pub record Gives (o : Outcome) (l : List ℕ) (x v k : ℕ) (m : List ℕ) : Type 0 where
  pub answer : x ≡ o.answer
  pub runs : v ≡ o.runs
  pub further : k ≡ o.further
  pub bytes : m ≡ bytes_after o l

-- An outcome in one number: the answer with the further result in its lower 32 bits, the task to run above them.
abbrev pub result_in : ℕ → ℕ
result_in all = all % 4294967296

abbrev pub runs_in : ℕ → ℕ
runs_in all = all / 4294967296

abbrev pub Stepped : (kind a b c d e f : ℕ) (l : List ℕ) (answer runs further : ℕ) (m : List ℕ) → Type 0
Stepped kind a b c d e f l = Gives (outcome_of kind a b c d e f l) l

abbrev pub ServedPlainly : (kind a b c d e f : ℕ) (l : List ℕ) (answer runs further : ℕ) (m : List ℕ) → Type 0
ServedPlainly kind a b c d e f l = Gives (serve_of kind a b c d e f l) l

-- `ntk_fresh` answers 0 and leaves the image of the fresh table; bytes of another length it answers with 15 and leaves as they came.
pub record Freshened (l : List ℕ) (x : ℕ) (m : List ℕ) : Type 0 where
  pub answer : x ≡ cond (eqb (length l) image_size) done not_sound
  pub bytes : m ≡ cond (eqb (length l) image_size) (image_of fresh_table) l

-- No two results meet the promise for one input: neither of `ntk_step` nor of `ntk_serve`.
pub determined : {o : Outcome} {l : List ℕ} {x y v w j k : ℕ} {m n : List ℕ} → Gives o l x v j m → Gives o l y w k n → (x ≡ y) × (v ≡ w) × (j ≡ k) × (m ≡ n)
determined p q = (p.answer ∙ sym q.answer, p.runs ∙ sym q.runs, p.further ∙ sym q.further, p.bytes ∙ sym q.bytes)

-- Nor of `ntk_fresh`.
pub fresh-determined : {l : List ℕ} {x y : ℕ} {m n : List ℕ} → Freshened l x m → Freshened l y n → (x ≡ y) × (m ≡ n)
fresh-determined p q = (p.answer ∙ sym q.answer, p.bytes ∙ sym q.bytes)
