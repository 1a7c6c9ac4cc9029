-- Which calls an interrupt may make, by the kind byte alone.
use Rattle.std.specs.Prelude.{Bool, Option, Some, None, ◌&&◌, List, ◌≢◌, ◌⊎◌, ◌≡◌, ℕ, ◌-◌, ◌≤◌, ◌<◌, eqb, get_or}
use Rattle.std.proofs.Math.Bool.{true, false, cond, not}
use Rattle.std.proofs.Common.{true≢false, inl, inr, ◌∙◌, arith, ne_eqb, leb-true, ltb-true}
use Rattle.std.proofs.Math.Path.{refl, sym, ap, subst}
use Rattle.rules.specs.Kinds.{Kind, kinds, told_in, told_of, is_interrupt, plain_kind, says_call, says_none, of_kind, reading, spelled}
use Rattle.rules.specs.KindLaws.{Each, end, with}
use Rattle.rules.specs.Step.{for_interrupts}
use Rattle.rules.specs.declared.Call.{Call}
use Rattle.rules.specs.declared.Reading.{Reading}
use Rattle.kinds.specs.Row.{Row, row_of, row_none, said_in, row-says}

-- Whether an interrupt may make calls of the kind k; it may make none that the list lacks.
unfoldable pub may_make : ℕ → Bool
may_make k = told_of k (λ r. r.interrupts) false

-- "made by an interrupt, and not a tick or a semaphore post", nor a post of flags or of a message; a kind that the list lacks among them.
unfoldable pub barred : ℕ → Bool
barred kind = is_interrupt kind && not (may_make (plain_kind kind))

-- The kind of the call that is let in: without the bit, or the byte as it is where it is barred.
unfoldable pub let_in : ℕ → ℕ
let_in kind = cond (barred kind) kind (plain_kind kind)

-- ---- the kinds that are left to tasks

none_may : (k : ℕ) (l : List Kind) → Each (λ r. (r.interrupts ≡ false) ⊎ (k ≢ r.byte)) l → told_in l k (λ r. r.interrupts) false ≡ false
unfolding told_in
none_may k l end = refl
none_may k l (with {r} {rs} (inl e) rest) = go (eqb k r.byte) (none_may k rs rest)
  where
    go : (b : Bool) → told_in rs k (λ r. r.interrupts) false ≡ false → cond b r.interrupts (told_in rs k (λ r. r.interrupts) false) ≡ false
    go true h = e
    go false h = h
none_may k l (with {r} {rs} (inr d) rest) = rw (ne_eqb k r.byte d) (none_may k rs rest)

left_to_tasks : (k : ℕ) → k ≢ 0x0B → k ≢ 0x13 → k ≢ 0x33 → k ≢ 0x43 → may_make k ≡ false
unfolding may_make
left_to_tasks k tick semaphore group channel = none_may k kinds (search (end, with, inl, inr) depth 80 fits 12000)

-- Such a byte stays as it is.
pub let_in_else : (kind : ℕ) → kind ≢ 0x8B → kind ≢ 0x93 → kind ≢ 0xB3 → kind ≢ 0xC3 → kind ≡ let_in kind
unfolding barred let_in
let_in_else kind tick semaphore group channel = go (is_interrupt kind) refl
  where
    go : (b : Bool) → is_interrupt kind ≡ b → kind ≡ cond (b && not (may_make (cond b (kind - 0x80) kind))) kind (cond b (kind - 0x80) kind)
    go false e = refl
    go true e =
        let h : 0x80 ≤ kind = leb-true 0x80 kind e in
        rw (left_to_tasks (kind - 0x80) (λ z. tick (omega arith)) (λ z. semaphore (omega arith)) (λ z. group (omega arith)) (λ z. channel (omega arith)))

-- ---- the list and the calls agree

abbrev pub may_of : Option Call → Bool
may_of (Some c) = for_interrupts c
may_of None = false

-- What is read goes by `interrupt`, and whether an interrupt may make it is `may`.
abbrev pub Agrees : (interrupt may : Bool) → Reading → Type 0
Agrees interrupt may r = (r.interrupt ≡ interrupt) × (may ≡ may_of r.call)

module _ (k : ℕ) (n : ℕ → ℕ) (interrupt : Bool) where
  agree_in : (l : List Kind) → Each (λ r. r.interrupts ≡ for_interrupts (r.call n)) l
      → Agrees interrupt (told_in l k (λ r. r.interrupts) false) (told_in l k (λ r. says_call (r.call n) interrupt) (says_none interrupt))
  unfolding told_in
  agree_in l end = (refl, refl)
  agree_in l (with {r} {rs} p e) = go (eqb k r.byte) _ _ (agree_in rs e)
    where
      go : (b may : Bool) (said : Reading) → Agrees interrupt may said → Agrees interrupt (cond b r.interrupts may) (cond b (says_call (r.call n) interrupt) said)
      go true may said a = (refl, p)
      go false may said a = a

each_agrees : (n : ℕ → ℕ) → Each (λ r. r.interrupts ≡ for_interrupts (r.call n)) kinds
unfolding told_in spelled for_interrupts
each_agrees n = search (end, with) depth 80 fits 12000

pub reading-agrees : (kind : ℕ) (numbers : List ℕ) → Agrees (is_interrupt kind) (may_make (plain_kind kind)) (reading kind numbers)
unfolding may_make of_kind reading
reading-agrees kind numbers = agree_in (plain_kind kind) (λ i. get_or numbers i 0) (is_interrupt kind) kinds (each_agrees (λ i. get_or numbers i 0))

-- ---- the row of the kind that is let in

-- No kind of the list has the bit.
low : Each (λ r. r.byte < 0x80) kinds
low = search (end, with, ltb-true) depth 80 fits 12000

none_high : {k : ℕ} {l : List Kind} → 0x80 ≤ k → Each (λ r. r.byte < 0x80) l → Each (λ r. k ≢ r.byte) l
none_high h end = end
none_high h (with {r} d e) = with {r = r} (λ z. omega (arith, h, d, z)) (none_high h e)

-- Of a barred byte the bit is set.
barred-high : (kind : ℕ) → barred kind ≡ true → 0x80 ≤ kind
unfolding barred
barred-high kind e = go (is_interrupt kind) refl
  where
    go : (b : Bool) → is_interrupt kind ≡ b → 0x80 ≤ kind
    go true i = leb-true 0x80 kind i
    go false i = absurd (true≢false (sym e ∙ ap (λ (b : Bool). b && not (may_make (plain_kind kind))) i))

module _ (kind : ℕ) (numbers : List ℕ) where
  barred-lacks : barred kind ≡ true → row_of (let_in kind) numbers ≡ None
  unfolding let_in
  barred-lacks e = ap (λ (b : Bool). row_of (cond b kind (plain_kind kind)) numbers) e ∙ sym (row_none kind numbers (none_high (barred-high kind e) low))

  -- What is not barred is read as its row says.
  free-says : {row : Option Row} → barred kind ≡ false → row_of (let_in kind) numbers ≡ row → reading kind numbers ≡ said_in (is_interrupt kind) row
  unfolding let_in
  free-says e f =
      let free : let_in kind ≡ plain_kind kind = ap (λ (b : Bool). cond b kind (plain_kind kind)) e in
      sym (row-says kind numbers) ∙ ap (said_in (is_interrupt kind)) (ap (λ (k : ℕ). row_of k numbers) (sym free) ∙ f)

  -- A call that is let in is read so, and may be made;
  pub let_in_has : {c : Call} {w : ℕ} → row_of (let_in kind) numbers ≡ Some (c, w) → (reading kind numbers ≡ says_call c (is_interrupt kind)) × ((is_interrupt kind && not (for_interrupts c)) ≡ false)
  unfolding barred
  let_in_has {c} {w} f = go (barred kind) refl
    where
      go : (b : Bool) → barred kind ≡ b → (reading kind numbers ≡ says_call c (is_interrupt kind)) × ((is_interrupt kind && not (for_interrupts c)) ≡ false)
      go true e = let z : ◌≡◌ {A = Option Row} (Some (c, w)) None = sym f ∙ barred-lacks e in cc
      go false e =
          let is = free-says e f in
          let (i, may) = subst (Agrees (is_interrupt kind) (may_make (plain_kind kind))) is (reading-agrees kind numbers) in
          (is, ap (λ (b : Bool). is_interrupt kind && not b) (sym may) ∙ e)

  -- and what is in no row is barred, or the list lacks it.
  pub let_in_lacks : row_of (let_in kind) numbers ≡ None → (barred kind ≡ true) ⊎ (reading kind numbers ≡ says_none (is_interrupt kind))
  let_in_lacks f = go (barred kind) refl
    where
      go : (b : Bool) → barred kind ≡ b → (barred kind ≡ true) ⊎ (reading kind numbers ≡ says_none (is_interrupt kind))
      go true e = inl e
      go false e = inr (free-says e f)
