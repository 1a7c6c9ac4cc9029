-- What a call promises that may tell a further result beside its answer. Both are one number: the answer in its lower 16 bits, the further result above.
use Rattle.std.specs.Prelude.{◌≡◌, refl, Bool, true, false, cond, List, ℕ, Result, Ok, Err, ◌*◌, ◌/◌, ◌%◌, ◌<◌}
use Rattle.std.proofs.Common.{sym, ◌∙◌, arith}
use Rattle.rules.specs.Table.{Table}
use Rattle.rules.specs.Step.{changes}
use Rattle.rules.specs.Tape.{Bytes}
use Rattle.table.specs.Image.{Image, view}
use Rattle.service.specs.Answers.{refusal_number}
use Rattle.service.specs.declared.answers.Refusal.{Refusal}
use Rattle.service.specs.Served.{Served, determined}
use Rattle.service.specs.Serving.{refused, served}

abbrev pub answer_in : ℕ → ℕ
answer_in r = r % 65536

abbrev pub further_in : ℕ → ℕ
further_in r = r / 65536

-- A call whose answer is a further result k, or a refusal.
abbrev pub told_of : Result ℕ Refusal → ℕ
told_of (Ok k) = 65536 * k
told_of (Err r) = refusal_number r

-- The call is served, and where it is done it tells k; "0 otherwise". The answer is a byte.
pub record Told (n : ℕ) (new : Table) (k r : ℕ) (l m : List ℕ) : Type 0 where
  pub served : Served n new (answer_in r) l m
  pub further : further_in r ≡ cond (changes n) k 0
  pub byte : answer_in r < 256

nothing : (b : Bool) (k : ℕ) → k ≡ 0 → cond b k 0 ≡ 0
nothing true k e = e
nothing false k e = refl

module _ {n : ℕ} {new : Table} {l : List ℕ} where
  -- A service whose answer is a byte tells nothing further.
  pub tells-nothing : {k r : ℕ} {m : List ℕ} → r < 256 → k ≡ 0 → Served n new r l m → Told n new k r l m
  tells-nothing {k} {r} h e s =
      let same : answer_in r ≡ r = omega arith in
      let none : further_in r ≡ 0 = omega arith in
      record { served = rw same s; further = none ∙ sym (nothing (changes n) k e); byte = omega arith }

  -- A refusal tells nothing,
  pub tells-refused : {k r : ℕ} → r ≡ n → r < 256 → changes r ≡ false → Told n new k r l l
  tells-refused {k} {r} e h f =
      let same : answer_in r ≡ r = omega arith in
      let none : further_in r ≡ 0 = omega arith in
      record { served = rw same (refused e f); further = none ∙ rw (← e, f) refl; byte = omega arith }

  -- and what is done tells all it has to.
  pub tells : {j k : ℕ} {m : List ℕ} → 0 ≡ n → j ≡ k → view m ≡ new → Told n new k (65536 * j) l m
  tells {j} {k} e h f =
      let same : answer_in (65536 * j) ≡ 0 = omega arith in
      let all : further_in (65536 * j) ≡ j = omega arith in
      record { served = rw same (served e refl f); further = all ∙ rw (← e) h; byte = omega arith }

-- No two outcomes meet it for one input: neither the number nor the bytes.
pub told-determined : {n k r r' : ℕ} {new : Table} {l m m' : List ℕ} → Image m → Bytes m → Image m' → Bytes m' → Told n new k r l m → Told n new k r' l m' → (r ≡ r') × (m ≡ m')
told-determined {r = r} {r' = r'} long bytes long' bytes' p q =
    let d = determined long bytes long' bytes' p.served q.served in
    let further : further_in r ≡ further_in r' = p.further ∙ sym q.further in
    let same : r ≡ r' = omega (arith, d.0, further) in
    (same, d.1)
