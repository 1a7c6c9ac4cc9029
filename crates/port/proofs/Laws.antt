-- What each way through the port gives.
use mathlib.Core.Path.{◌≡◌, refl, sym, ap, subst, ◌∙◌}
use mathlib.Core.Bool.{Bool, true, false, cond, not, ◌&&◌, true≢false}
use mathlib.Core.List.{List, ◌++◌, append-nil}
use mathlib.Core.Logic.{◌⊎◌, inl, inr}
use Prim.Native.Nat.{ℕ}
use native.Mathlib.Omega.{arith}
use lib.ListN.{length, drop}
use lib.Seq.{drop-length}
use borrow.Author.Tests.{eq-eqb, ne_eqb}
use Rattle.rules.specs.Sizes.{done, beyond_range, by_interrupt, not_sound}
use Rattle.rules.specs.Table.{Table, fresh_table}
use Rattle.rules.specs.Step.{Outcome, for_interrupts, answer_to, answer, effect, told_by, serve, unsound, changes}
use Rattle.rules.specs.Kinds.{says_none, is_interrupt, plain_kind, reading}
use Rattle.rules.specs.declared.Call.{Call}
use Rattle.rules.specs.declared.Reading.{Reading}
use Rattle.kinds.specs.Row.{Row, row_of}
use Rattle.std.specs.Prelude.{Option, Some, None}
use Rattle.kinds.specs.Interrupts.{may_make, barred, let_in, Agrees, reading-agrees, let_in_has, let_in_lacks}
use Rattle.laws.specs.keeps.Sounds.{fresh-sound}
use Rattle.table.specs.Image.{Image, image_size, view, image_of}
use Rattle.rules.specs.Tape.{Bytes}
use Rattle.table.specs.Written.{view-image, one_image}
use Rattle.service.specs.Told.{Told, answer_in, further_in}
use Rattle.port.specs.Step.{plainly, bytes_after, Gives, Freshened}

-- What comes back of an image that was lent whole is what it was left as.
pub back_whole : {n : ℕ} (l : List ℕ) → length l ≡ n → (m : List ℕ) → m ++ drop n l ≡ m
back_whole l h m = ap (λ (k : ℕ). m ++ drop k l) (sym h) ∙ ap (λ (z : List ℕ). m ++ z) (drop-length l) ∙ append-nil m

-- ---- what is given

pub gives_by : {o p : Outcome} {l m : List ℕ} {x v k : ℕ} → o ≡ p → Gives p l x v k m → Gives o l x v k m
gives_by {l = l} {m} {x} {v} {k} e g = subst (λ (q : Outcome). Gives q l x v k m) (sym e) g

-- An answer as it is handed on.
pub gives-answered : {o : Outcome} {l m : List ℕ} {x v k y w j : ℕ} → Gives o l x v k m → y ≡ x → w ≡ v → j ≡ k → Gives o l y w j m
gives-answered g e f d = record { answer = e ∙ g.answer; runs = f ∙ g.runs; further = d ∙ g.further; bytes = g.bytes }

pub plain_by : {r q : Reading} (t : Table) → r ≡ q → plainly r t ≡ plainly q t
plain_by t e = ap (λ (z : Reading). plainly z t) e

-- The row that was found, and the answer.
pub row_by : (kind : ℕ) (numbers : List ℕ) {k : ℕ} {row x : Option Row} → k ≡ let_in kind → row ≡ row_of k numbers → row ≡ x → row_of (let_in kind) numbers ≡ x
row_by kind numbers e f g = ap (λ (z : ℕ). row_of z numbers) (sym e) ∙ sym f ∙ g

pub answer_by : {b i : Bool} {x : ℕ} → b ≡ i → x ≡ cond b by_interrupt beyond_range → x ≡ cond i by_interrupt beyond_range
answer_by e f = f ∙ ap (λ (z : Bool). cond z by_interrupt beyond_range) e

-- A damaged table or a wrong length.
pub gives-unsound : {l m : List ℕ} {x v k : ℕ} → x ≡ not_sound → v ≡ 0 → k ≡ 0 → m ≡ l → Gives (unsound (view l)) l x v k m
unfolding bytes_after
gives-unsound e f d b = record { answer = e; runs = f; further = d; bytes = b }

-- A refusal with 5 or 1.
refusal : Bool → Table → Outcome
refusal interrupt t = record { answer = cond interrupt by_interrupt beyond_range; table = t; runs = t.running; further = 0 }

gives-refusal : (interrupt : Bool) (l : List ℕ) {x v : ℕ} → x ≡ cond interrupt by_interrupt beyond_range → v ≡ (view l).running → Gives (refusal interrupt (view l)) l (answer_in x) v (further_in x) l
unfolding refusal bytes_after
gives-refusal true l e f = record { answer = omega arith; runs = f; further = omega arith; bytes = refl }
gives-refusal false l e f = record { answer = omega arith; runs = f; further = omega arith; bytes = refl }

-- A call that an interrupt makes and may not make, also where the list lacks the kind.
said-barred : (interrupt may : Bool) (t : Table) (r : Reading) → Agrees interrupt may r → (interrupt && not may) ≡ true → plainly r t ≡ refusal interrupt t
unfolding refusal plainly serve answer
said-barred false may t r a h = absurd (true≢false (sym h))
said-barred true may t r a h = go r.call r.interrupt a
  where
    go : (call : Option Call) (i : Bool) → let said : Reading = record { call = call; interrupt = i } in Agrees true may said → plainly said t ≡ refusal true t
    go (Some c) i (e, f) = let g : (i && not (for_interrupts c)) ≡ true = (λ x. e x && not (sym f x)) ∙ h in rw g
    go None i (e, f) = ap (λ (b : Bool). plainly (says_none b) t) e

-- A call that is not let in.
module _ (kind : ℕ) (numbers : List ℕ) (l : List ℕ) where
  refused : (barred kind ≡ true) ⊎ (reading kind numbers ≡ says_none (is_interrupt kind)) → plainly (reading kind numbers) (view l) ≡ refusal (is_interrupt kind) (view l)
  unfolding refusal plainly barred
  refused (inl e) = said-barred (is_interrupt kind) (may_make (plain_kind kind)) (view l) (reading kind numbers) (reading-agrees kind numbers) e
  refused (inr e) = plain_by (view l) e

  pub gives_lacking : {x v : ℕ} → row_of (let_in kind) numbers ≡ None → x ≡ cond (is_interrupt kind) by_interrupt beyond_range → v ≡ (view l).running
      → Gives (plainly (reading kind numbers) (view l)) l (answer_in x) v (further_in x) l
  gives_lacking e f g = gives_by (refused (let_in_lacks kind numbers e)) (gives-refusal (is_interrupt kind) l f g)

-- A call that may be made, from the bytes l to the bytes m.
module _ (c : Call) (interrupt : Bool) (l m : List ℕ) {n : ℕ} (image : Image m) (bytes : Bytes m) (may : (interrupt && not (for_interrupts c)) ≡ false) (told : Told (answer_to c (view l)) (effect c (view l)) (told_by c (view l)) n l m) where
  free : answer_to c (view l) ≡ answer c interrupt (view l)
  unfolding answer
  free = rw may

  abbrev r : ℕ
  r = answer_in n

  after : (x : Bool) → changes r ≡ x → view m ≡ cond x (effect c (view l)) (view l)
  after true e = told.served.done e
  after false e = ap view (told.served.kept e)

  written : (x : Bool) → changes r ≡ x → m ≡ cond x (image_of (cond x (effect c (view l)) (view l))) l
  written true e = sym (view-image m image bytes) ∙ ap image_of (told.served.done e)
  written false e = told.served.kept e

  gives_made : {v : ℕ} → v ≡ (view m).running → Gives (serve c interrupt (view l)) l r v (further_in n) m
  unfolding serve bytes_after
  gives_made f =
      let is = told.served.says ∙ free in
      let same : changes r ≡ changes (answer c interrupt (view l)) = ap (λ (z : ℕ). changes z) is in
      record {
        answer = is;
        runs = f ∙ ap (λ (t : Table). t.running) (after _ same);
        further = told.further ∙ ap (λ (z : ℕ). cond (changes z) (told_by c (view l)) 0) free;
        bytes = written _ same;
      }

-- A call that is let in.
pub gives_let_in : (kind : ℕ) (numbers l m : List ℕ) {c : Call} {w n v : ℕ} → Image m → Bytes m → row_of (let_in kind) numbers ≡ Some (c, w) → Told (answer_to c (view l)) (effect c (view l)) (told_by c (view l)) n l m
    → v ≡ (view m).running → Gives (plainly (reading kind numbers) (view l)) l (answer_in n) v (further_in n) m
unfolding plainly
gives_let_in kind numbers l m {c} image bytes e s g =
    let (is, may) = let_in_has kind numbers e in
    gives_by (plain_by (view l) is) (gives_made c (is_interrupt kind) l m image bytes may s g)

-- ---- the fresh image

pub fresh-wrong : {l : List ℕ} → (Image l → ⊥) → Freshened l not_sound l
fresh-wrong {l} h = let e = ne_eqb (length l) image_size h in record { answer = rw e; bytes = rw e }

pub fresh_right : {l m : List ℕ} → Image l → Image m → Bytes m → view m ≡ fresh_table → Freshened l done m
fresh_right {l} {m} h image bytes e =
    let f = eq-eqb (length l) image_size h in
    record { answer = rw f; bytes = rw f (one_image fresh-sound m image bytes e) }

-- ---- a slice as an image

-- The bytes that the slice has and those of the image are one list.
pub gives_along : (rule : Table → Outcome) {l s m : List ℕ} {x v k : ℕ} → s ≡ l → Gives (rule (view s)) s x v k m → Gives (rule (view l)) l x v k m
gives_along rule {m = m} {x} {v} {k} e g = subst (λ (z : List ℕ). Gives (rule (view z)) z x v k m) e g
