-- A tape that comes in reads, each played behind what the last left over, prints what the whole tape prints.
use Rattle.std.specs.Prelude.{Bool, Ok, Err, true, cond, ◌≡◌, ℕ, ◌*◌, ◌≤◌, ◌<◌, ltb}
use Rattle.std.proofs.Math.Bool.{false}
use Rattle.std.proofs.Common.{true≢false, sym, ◌∙◌, lt-ltb}
use Rattle.std.proofs.Math.Path.{refl, ap}
use mathlib.Core.List.{List, [], ◌∷◌, ◌++◌, flatten, append_assoc, append-nil}
use native.Mathlib.Omega.{arith}
use Rattle.std.proofs.Math.ListN.{length}
use Rattle.rules.specs.Table.{Table}
use Rattle.rules.specs.Step.{Outcome}
use Rattle.rules.specs.Tape.{bad_line, printed}
use Rattle.rules.specs.declared.Call.{Call}
use Rattle.tape.specs.Next.{Next, next_in, is_bad, is_whole}
use Rattle.tape.specs.Play.{Played, plays}
use Rattle.tape.specs.Prints.{prints, end_empty, prints_bad, plays_more, plays-ended, plays-stops, plays-short}
use Rattle.tape.specs.declared.Stop.TheVariants.{Cut, NoKind, End}

left_bad : (l : List ℕ) → 0 < length l → is_whole (next_in l) ≡ false → is_bad (next_in l) ≡ true
left_bad l h e = go (next_in l) refl
  where
    go : (x : Next) → next_in l ≡ x → is_bad (next_in l) ≡ true
    go (Ok w) f = absurd (true≢false (sym (ap is_whole f) ∙ e))
    go (Err Cut) f = ap is_bad f
    go (Err NoKind) f = ap is_bad f
    go (Err End) f = absurd (omega (arith, ap length (end_empty l f)))

module _ (serves : Call → Bool → Table → Outcome) (room : ℕ → ℕ) where
  -- A part played, where n bytes have `room n` for their lines.
  abbrev pub part : Table → List ℕ → Played
  part t l = plays serves (length l) (room (length l)) t l

  -- What is printed of the reads from the table t, where the bytes `left` are left over: each read is played behind these. A kind that the
  -- list lacks prints `bad` and ends it; at the tape's end, bytes that are left over print `bad`.
  unfoldable pub by_reads : Table → List ℕ → List (List ℕ) → List ℕ
  by_reads t left [] = cond (ltb 0 (length left)) bad_line []
  by_reads t left (r ∷ rs) =
      let p = part t (left ++ r) in
      let on = by_reads p.table p.rest rs in
      p.text ++ cond p.ended bad_line on

  end_prints : (t : Table) (left : List ℕ) → is_whole (next_in left) ≡ false → cond (ltb 0 (length left)) bad_line [] ≡ prints serves t left
  unfolding printed
  end_prints t [] e = refl
  end_prints t (x ∷ xs) e =
      let some : 0 < length (x ∷ xs) = omega arith in
      rw (lt-ltb 0 (length (x ∷ xs)) some) (sym (prints_bad serves t (x ∷ xs) (left_bad (x ∷ xs) some e)))

  on_prints : (t : Table) (l more : List ℕ) {on : List ℕ} → let p = part t l in
      on ≡ prints serves p.table (p.rest ++ more) → cond p.ended bad_line on ≡ prints serves p.table (p.rest ++ more)
  on_prints t l more {on} same = go (part t l).ended refl
    where
      go : (b : Bool) → (part t l).ended ≡ b → cond b bad_line on ≡ prints serves (part t l).table ((part t l).rest ++ more)
      go true e = sym (plays-ended serves (length l) (room (length l)) t l more e)
      go false e = same

  module _ (enough : (n : ℕ) → 6 * n ≤ room n) where
    none_whole : (t : Table) (l : List ℕ) → is_whole (next_in (part t l).rest) ≡ false
    unfolding next_in
    none_whole t l = go (part t l).rest refl
      where
        go : (rest : List ℕ) → (part t l).rest ≡ rest → is_whole (next_in (part t l).rest) ≡ false
        go [] e = rw e
        go (x ∷ xs) e =
            plays-stops serves (length l) (room (length l)) t l (omega arith)
            (omega (arith, enough (length l), plays-short serves (length l) (room (length l)) t l, ap length e))

    -- With room for 6 bytes to each byte, and no whole call left over at the start, the text is that of the whole tape.
    pub reads-prints : (t : Table) (left : List ℕ) (rs : List (List ℕ)) → is_whole (next_in left) ≡ false → by_reads t left rs ≡ prints serves t (left ++ flatten rs)
    unfolding by_reads flatten
    reads-prints t left [] e = rw (append-nil left) (end_prints t left e)
    reads-prints t left (r ∷ rs) e =
        let l = left ++ r in
        let p = part t l in
        ap (λ (x : List ℕ). p.text ++ x) (on_prints t l (flatten rs) (reads-prints p.table p.rest rs (none_whole t l)))
        ∙ plays_more serves (length l) (room (length l)) t l (flatten rs)
        ∙ ap (prints serves t) (append_assoc left r (flatten rs))
