-- What stands at the start of a tape.
use Rattle.std.specs.Prelude.{Bool, Some, None, Result, Ok, Err, true, false, cond, ◌≢◌, ◌≡◌, refl, List, [], ◌∷◌, ℕ, ◌+◌, ◌≤◌, ◌<◌, eqb, ltb, length, get_or, drop}
use Rattle.std.proofs.Common.{sym, ap, ◌∙◌, arith, drop-drop, lt-ltb, le-ltb}
use Rattle.rules.specs.Kinds.{Kind, kinds, told_in, says_call, says_none, widths, plain_kind, of_kind, reading}
use Rattle.rules.specs.KindLaws.{told_of_lem, Same, reading_same}
use Rattle.rules.specs.Tape.{sum, numbers, body_length, call_in}
use Rattle.rules.specs.declared.Call.{Call}
use Rattle.rules.specs.declared.Reading.{Reading}
use Rattle.tape.specs.declared.Whole.{Whole}
use Rattle.tape.specs.declared.Stop.{Stop}
use Rattle.tape.specs.declared.Stop.TheVariants.{Cut, NoKind, End}

-- A whole call, or why there is none.
abbrev pub Next : Type 0
Next = Result Whole Stop

-- A call of n bytes that is whole.
abbrev pub whole : Call → Bool → ℕ → Next
whole c interrupt n = Ok (record { call = c; interrupt = interrupt; length = n })

-- What a reading is where its call has n bytes, and is whole or cut.
unfoldable pub next_of : Reading → Bool → ℕ → Next
next_of r cut n = elim (r.call) as (λ _. Next) [ Some c ↦ cond cut (Err Cut) (whole c r.interrupt n) | None ↦ Err NoKind ]

-- What stands at the start of a tape: a call with its length, a call that is cut, a kind that the list lacks, or the tape's end.
unfoldable pub next_in : List ℕ → Next
next_in [] = Err End
next_in (kind ∷ body) = next_of (call_in kind body) (ltb (length body) (body_length kind)) (1 + body_length kind)

abbrev pub is_whole : Next → Bool
is_whole (Ok w) = true
is_whole (Err e) = false

-- A start for which `bad` is printed.
abbrev pub is_bad : Next → Bool
is_bad (Ok w) = false
is_bad (Err Cut) = true
is_bad (Err NoKind) = true
is_bad (Err End) = false

pub next_end : (l : List ℕ) → length l ≡ 0 → Err End ≡ next_in l
unfolding next_in
next_end [] e = refl
next_end (kind ∷ body) e = let z : ◌≡◌ {A = ℕ} 0 1 = omega arith in cc

-- ---- a cut body: which kinds there are does not depend on the numbers

pub next_kind : (k : ℕ) (l m : List ℕ) (n n' : ℕ) (i : Bool) → next_of (of_kind k l i) true n ≡ next_of (of_kind k m i) true n'
unfolding of_kind next_of
next_kind k l m n n' i = told_of_lem (λ r. next_of r true n) kinds k _ _ ∙ sym (told_of_lem (λ r. next_of r true n') kinds k _ _)

pub next_cut : (l m : List ℕ) {n : ℕ} → length l ≢ 0 → n ≡ body_length (get_or l 0 0) → length l < 1 + n → next_of (reading (get_or l 0 0) m) true 0 ≡ next_in l
unfolding next_in call_in reading
next_cut [] m h e short = absurd (h refl)
next_cut (kind ∷ body) m h e short = let s : length body < body_length kind = omega arith in rw (lt-ltb (length body) (body_length kind) s) (next_kind _ _ _ _ _ _)

-- A kind that has a body is in the list.
cut_in : (kinds : List Kind) (k n : ℕ) (call : Kind → Call) (i : Bool) → 0 < sum (told_in kinds k (λ r. r.widths) [])
    → next_of (told_in kinds k (λ r. says_call (call r) i) (says_none i)) true n ≡ Err Cut
unfolding told_in next_of sum
cut_in [] k n call i h = absurd (omega arith)
cut_in (r ∷ rs) k n call i h = go (eqb k r.byte) (cut_in rs k n call i) h
  where
    go : (b : Bool) → (0 < sum (told_in rs k (λ r. r.widths) []) → next_of (told_in rs k (λ r. says_call (call r) i) (says_none i)) true n ≡ Err Cut)
        → 0 < sum (cond b r.widths (told_in rs k (λ r. r.widths) [])) → next_of (cond b (says_call (call r) i) (told_in rs k (λ r. says_call (call r) i) (says_none i))) true n ≡ Err Cut
    go true rest h = refl
    go false rest h = rest h

-- So a body that is cut is that of a call.
pub cut_next : (kind : ℕ) (body : List ℕ) → length body < body_length kind → Err Cut ≡ next_in (kind ∷ body)
unfolding next_in call_in reading of_kind body_length widths
cut_next kind body h =
    rw (lt-ltb (length body) (body_length kind) h) (sym (cut_in kinds (plain_kind kind) (1 + body_length kind) _ _ (omega arith)))

-- ---- a whole body

-- A reading that has a call, and one that has none.
pub next_call : (r : Reading) (n : ℕ) {c : Call} → r.call ≡ Some c → whole c r.interrupt n ≡ next_of r false n
unfolding next_of
next_call r n e = rw e

pub next_none : (r : Reading) (n : ℕ) → r.call ≡ None → Err NoKind ≡ next_of r false n
unfolding next_of
next_none r n e = rw e

pub next_behind : (kind : ℕ) (body : List ℕ) (n : ℕ) → drop (1 + n) (kind ∷ body) ≡ drop n body
next_behind kind body n = sym (drop-drop n 1 (kind ∷ body))

pub next_whole : (l m : List ℕ) {k n : ℕ} → length l ≢ 0 → k ≡ plain_kind (get_or l 0 0) → n ≡ body_length (get_or l 0 0) → 1 + n ≤ length l
    → Same m (numbers (widths k) (drop 1 l)) → next_of (reading (get_or l 0 0) m) false (1 + n) ≡ next_in l
unfolding next_in call_in
next_whole [] m h p e fits same = absurd (h refl)
next_whole (kind ∷ body) m h p e fits same =
    let f : body_length kind ≤ length body = omega arith in
    rw (e, le-ltb (length body) (body_length kind) f, ← p, reading_same kind m (numbers (widths _) body) same)

-- The same of a kind byte and the body behind it.
pub read_next : (kind : ℕ) (body m : List ℕ) {k n : ℕ} {r : Reading} → k ≡ plain_kind kind → n ≡ body_length kind → n ≤ length body
    → Same m (numbers (widths k) body) → r ≡ reading kind m → next_of r false (1 + n) ≡ next_in (kind ∷ body)
read_next kind body m {n = n} p e fits same r =
    ap (λ (said : Reading). next_of said false (1 + n)) r ∙ next_whole (kind ∷ body) m (λ z. omega (arith, z)) p e (omega arith) same
