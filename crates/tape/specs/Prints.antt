-- Playing a tape by parts prints what the whole tape prints.
use Rattle.std.specs.Prelude.{Bool, Option, Some, None, Ok, Err, cond, ltb}
use Rattle.std.proofs.Math.Bool.{true, false}
use Rattle.std.proofs.Math.Path.{◌≡◌, refl, ap, fun_ext}
use Rattle.std.proofs.Common.{sym, ◌∙◌, length-append}
use mathlib.Core.List.{List, [], ◌∷◌, ◌++◌, append_assoc, append-nil}
use Prim.Native.Nat.{ℕ, zero, suc, ◌+◌, ◌-◌, ◌*◌, ◌≤◌, ◌<◌}
use native.Mathlib.Omega.{arith}
use Rattle.std.proofs.Math.ListN.{length, drop, length-drop}
use Rattle.std.proofs.lemmas.List.{drop-append-le}
use borrow.Author.Tests.{ltb-true, ltb-false, le-ltb}
use Rattle.kinds.specs.Body.{call_append}
use Rattle.rules.specs.Kinds.{says_call, reading}
use Rattle.rules.specs.Table.{Table}
use Rattle.rules.specs.Step.{Outcome}
use Rattle.rules.specs.Tape.{line, bad_line, body_length, call_in, printed, printed_of}
use Rattle.rules.specs.declared.Call.{Call}
use Rattle.rules.specs.declared.Reading.{Reading}
use Rattle.tape.specs.Line.{line_of_lem, line-short}
use Rattle.tape.specs.Next.{Next, whole, next_of, next_in, is_bad, is_whole, next_kind, next_behind}
use Rattle.tape.specs.Play.{Played, stopped, behind, plays_on, plays}
use Rattle.tape.specs.declared.Whole.{Whole}
use Rattle.tape.specs.declared.Stop.TheVariants.{Cut, NoKind, End}

-- ---- what a start of a tape says

whole_in : Whole → Next → Whole
whole_in other (Ok w) = w
whole_in other (Err e) = other

whole_of : (r : Reading) (cut : Bool) (n : ℕ) {c : Call} {i : Bool} {m : ℕ} → next_of r cut n ≡ whole c i m → (r ≡ says_call c i) × (cut ≡ false) × (n ≡ m)
unfolding next_of whole_in
whole_of r cut n {c} {i} {m} = go r.call cut
  where
    go : (call : Option Call) (cut : Bool) → let said : Reading = record { call = call; interrupt = r.interrupt } in
        next_of said cut n ≡ whole c i m → (said ≡ says_call c i) × (cut ≡ false) × (n ≡ m)
    go None cut e = (cc, cc, cc)
    go (Some d) true e = (cc, cc, cc)
    go (Some d) false e =
        let w = ap (whole_in (record { call = d; interrupt = r.interrupt; length = n })) e in
        (ap (λ (w : Whole). says_call w.call w.interrupt) w, refl, ap (λ (w : Whole). w.length) w)

no_kind_of : (r : Reading) (cut cut' : Bool) (n m : ℕ) → next_of r cut n ≡ Err NoKind → next_of r cut' m ≡ Err NoKind
unfolding next_of
no_kind_of r cut cut' n m = go r.call cut
  where
    go : (call : Option Call) (cut : Bool) → let said : Reading = record { call = call; interrupt = r.interrupt } in
        next_of said cut n ≡ Err NoKind → next_of said cut' m ≡ Err NoKind
    go None cut e = refl
    go (Some d) true e = cc
    go (Some d) false e = cc

pub whole-within : (l : List ℕ) {c : Call} {i : Bool} {n : ℕ} → next_in l ≡ whole c i n → (0 < n) × (n ≤ length l)
unfolding next_in
whole-within [] e = let z : ◌≡◌ {A = ℕ} 0 1 = cc in omega arith
whole-within (kind ∷ body) e =
    let w = whole_of (call_in kind body) (ltb (length body) (body_length kind)) (1 + body_length kind) e in
    omega (arith, ltb-false (length body) (body_length kind) w.1)

-- With more behind it, a whole call is the same call.
pub whole_more : (l more : List ℕ) {c : Call} {i : Bool} {n : ℕ} → next_in l ≡ whole c i n → next_in (l ++ more) ≡ whole c i n
unfolding next_in
whole_more [] more e = cc
whole_more (kind ∷ body) more e =
    let w = whole_of (call_in kind body) (ltb (length body) (body_length kind)) (1 + body_length kind) e in
    let short : body_length kind ≤ length body = ltb-false (length body) (body_length kind) w.1 in
    let long : body_length kind ≤ length (body ++ more) = simp length-append (omega arith) in
    rw (call_append kind body more short, le-ltb _ _ long, ← w.1) e

-- And so is a kind that the list lacks.
pub no_kind_more : (l more : List ℕ) → next_in l ≡ Err NoKind → next_in (l ++ more) ≡ Err NoKind
unfolding next_in call_in reading
no_kind_more [] more e = cc
no_kind_more (kind ∷ body) more e = no_kind_of _ true _ 0 _ (next_kind _ _ _ _ _ _ ∙ no_kind_of _ _ true _ 0 e)

never_end : (r : Reading) (cut : Bool) (n : ℕ) → next_of r cut n ≡ Err End → ◌≡◌ {A = ℕ} 0 1
unfolding next_of
never_end r cut n = go r.call cut
  where
    go : (call : Option Call) (cut : Bool) → next_of (record { call = call; interrupt = r.interrupt }) cut n ≡ Err End → ◌≡◌ {A = ℕ} 0 1
    go None cut e = cc
    go (Some d) true e = cc
    go (Some d) false e = cc

pub end_empty : (l : List ℕ) → next_in l ≡ Err End → l ≡ []
unfolding next_in
end_empty [] e = refl
end_empty (kind ∷ body) e = let z = never_end _ _ _ e in cc

empty_end : (l : List ℕ) → length l ≤ 0 → is_whole (next_in l) ≡ false
unfolding next_in
empty_end [] h = refl
empty_end (kind ∷ body) h = let z : ◌≡◌ {A = ℕ} 0 1 = omega arith in cc

module _ (serves : Call → Bool → Table → Outcome) where
  -- The text of a tape from the table t on.
  abbrev pub prints : Table → List ℕ → List ℕ
  prints t l = printed serves (length l) t l

  -- ---- more fuel than bytes is the same

  fuel : (n m : ℕ) (t : Table) (l : List ℕ) → length l ≤ n → length l ≤ m → printed serves n t l ≡ printed serves m t l
  unfolding printed
  fuel zero zero t l h g = refl
  fuel zero (suc m) t [] h g = refl
  fuel zero (suc m) t (kind ∷ body) h g = let z : ◌≡◌ {A = ℕ} 0 1 = omega arith in cc
  fuel (suc n) zero t [] h g = refl
  fuel (suc n) zero t (kind ∷ body) h g = let z : ◌≡◌ {A = ℕ} 0 1 = omega arith in cc
  fuel (suc n) (suc m) t [] h g = refl
  fuel (suc n) (suc m) t (kind ∷ body) h g =
      let rest = drop (body_length kind) body in
      let a : length rest ≤ n = simp length-drop (omega arith) in
      let b : length rest ≤ m = simp length-drop (omega arith) in
      ap (λ (f : Table → List ℕ). printed_of serves t (ltb (length body) (body_length kind)) f (call_in kind body)) (fun_ext (λ u. fuel n m u rest a b))

  -- ---- what is printed, by the tape's start

  whole-printed : (t : Table) (cut : Bool) (rest : Table → List ℕ) (r : Reading) {c : Call} {i : Bool} → r ≡ says_call c i → cut ≡ false → printed_of serves t cut rest r ≡ line (serves c i t) ++ rest (serves c i t).table
  unfolding printed_of
  whole-printed t cut rest r e f = rw (e, f)

  bad_printed : (t : Table) (cut : Bool) (rest : Table → List ℕ) (r : Reading) (n : ℕ) → is_bad (next_of r cut n) ≡ true → printed_of serves t cut rest r ≡ bad_line
  unfolding printed_of next_of
  bad_printed t cut rest r n = go r.call cut
    where
      go : (call : Option Call) (cut : Bool) → let said : Reading = record { call = call; interrupt = r.interrupt } in
          is_bad (next_of said cut n) ≡ true → printed_of serves t cut rest said ≡ bad_line
      go None cut e = refl
      go (Some d) true e = refl
      go (Some d) false e = cc

  pub prints-whole : (t : Table) (l : List ℕ) {c : Call} {i : Bool} {n : ℕ} → next_in l ≡ whole c i n → let o = serves c i t in prints t l ≡ line o ++ prints o.table (drop n l)
  unfolding next_in printed
  prints-whole t [] e = cc
  prints-whole t (kind ∷ body) {c} {i} {n} e =
      let w = whole_of (call_in kind body) (ltb (length body) (body_length kind)) (1 + body_length kind) e in
      let same : drop n (kind ∷ body) ≡ drop (body_length kind) body = ap (λ m. drop m (kind ∷ body)) (sym w.2) ∙ next_behind kind body (body_length kind) in
      let rest = drop (body_length kind) body in
      let h : length rest ≤ length body = simp length-drop (omega arith) in
      rw (whole-printed t _ _ _ w.0 w.1, same, fuel (length body) (length rest) (serves c i t).table rest h (omega arith))

  pub prints_bad : (t : Table) (l : List ℕ) → is_bad (next_in l) ≡ true → prints t l ≡ bad_line
  unfolding next_in printed
  prints_bad t [] e = cc
  prints_bad t (kind ∷ body) e = bad_printed t _ _ (call_in kind body) _ e

  -- ---- a part played, then the rest

  -- What holds of p, the tape l played from t, whatever more is behind l.
  record Right (n room : ℕ) (more : List ℕ) (t : Table) (l : List ℕ) (p : Played) : Type 0 where
    pub whole : p.text ++ prints p.table (p.rest ++ more) ≡ prints t (l ++ more)
    pub lacks : p.ended ≡ true → next_in p.rest ≡ Err NoKind
    pub stops : length l ≤ n → 6 ≤ room - length p.text → is_whole (next_in p.rest) ≡ false
    pub short : length p.text + 6 * length p.rest ≤ 6 * length l

  module _ (n room : ℕ) (more : List ℕ) (t : Table) (l : List ℕ) where
    stopped_right : (ended : Bool) → (ended ≡ true → next_in l ≡ Err NoKind) → (length l ≤ n → 6 ≤ room → is_whole (next_in l) ≡ false) → Right n room more t l (stopped ended t l)
    stopped_right ended e s = record { whole = refl; lacks = e; stops = λ h g. s h (omega arith); short = omega arith }

    going_right : (length l ≤ n → 6 ≤ room → is_whole (next_in l) ≡ false) → Right n room more t l (stopped false t l)
    going_right s = stopped_right false (λ e. cc) s

    on_right : (on : Outcome → ℕ → Played) (x : Next) → next_in l ≡ x
        → ((c : Call) (i : Bool) (m : ℕ) → next_in l ≡ whole c i m → Right n room more t l (on (serves c i t) m)) → Right n room more t l (plays_on serves t l on x)
    unfolding plays_on
    on_right on (Ok w) e h = h w.call w.interrupt w.length e
    on_right on (Err Cut) e h = going_right (λ _ _. ap is_whole e)
    on_right on (Err NoKind) e h = stopped_right true (λ _. e) (λ _ _. ap is_whole e)
    on_right on (Err End) e h = going_right (λ _ _. ap is_whole e)

    either_right : (b : Bool) {x y : Played} → (b ≡ true → Right n room more t l x) → Right n room more t l y → Right n room more t l (cond b x y)
    either_right true p q = p refl
    either_right false p q = q

    behind_right : {c : Call} {i : Bool} {m : ℕ} (p : Played) → next_in l ≡ whole c i m
        → let o = serves c i t in Right n (room - length (line o)) more o.table (drop m l) p → Right (suc n) room more t l (behind (line o) p)
    behind_right {c} {i} {m} p e r =
        let w = whole-within l e in
        let o = serves c i t in
        let six : length (line o) ≤ 6 = rw (line_of_lem o) (line-short o.answer o.runs) in
        record {
          whole = rw (append_assoc, r.whole, prints-whole t (l ++ more) (whole_more l more e), drop-append-le m l more w.1);
          lacks = r.lacks;
          stops = λ h g. r.stops (simp length-drop (omega arith)) (omega (arith, simp length-append at g));
          short = simp length-append (omega (arith, simp length-drop at r.short));
        }

  plays_right : (n room : ℕ) (more : List ℕ) (t : Table) (l : List ℕ) → Right n room more t l (plays serves n room t l)
  unfolding plays
  plays_right zero room more t l = going_right zero room more t l (λ h _. empty_end l h)
  plays_right (suc n) room more t l =
      either_right (suc n) room more t l (ltb room 6)
      (λ e. going_right (suc n) room more t l (λ _ g. let z : ◌≡◌ {A = ℕ} 0 1 = omega (arith, ltb-true room 6 e) in cc))
      (on_right (suc n) room more t l _ (next_in l) refl
      (λ c i m e.
      let o = serves c i t in
      behind_right n room more t l _ e (plays_right n (room - length (line o)) more o.table (drop m l))))

  -- A part played, then the rest with what is read behind it: the text of the whole.
  pub plays_more : (n room : ℕ) (t : Table) (l more : List ℕ) → let p = plays serves n room t l in p.text ++ prints p.table (p.rest ++ more) ≡ prints t (l ++ more)
  plays_more n room t l more = (plays_right n room more t l).whole

  pub plays-prints : (n room : ℕ) (t : Table) (l : List ℕ)
      → let p = plays serves n room t l in p.text ++ printed serves (length p.rest) p.table p.rest ≡ printed serves (length l) t l
  plays-prints n room t l = simp append-nil at (plays_more n room t l [])

  -- Where a kind that the list lacks was met, `bad` is what is left to print, whatever is behind it.
  pub plays-ended : (n room : ℕ) (t : Table) (l more : List ℕ) → let p = plays serves n room t l in p.ended ≡ true → prints p.table (p.rest ++ more) ≡ bad_line
  plays-ended n room t l more e =
      let p = plays serves n room t l in
      let k = no_kind_more p.rest more ((plays_right n room more t l).lacks e) in
      prints_bad p.table (p.rest ++ more) (ap is_bad k)

  -- With a count as large as the tape, playing stops for want of room or of a whole call.
  pub plays-stops : (n room : ℕ) (t : Table) (l : List ℕ) → length l ≤ n
      → let p = plays serves n room t l in 6 ≤ room - length p.text → is_whole (next_in p.rest) ≡ false
  plays-stops n room t l h = (plays_right n room [] t l).stops h

  -- A call takes a byte or more and its line 6 at most.
  pub plays-short : (n room : ℕ) (t : Table) (l : List ℕ) → let p = plays serves n room t l in length p.text + 6 * length p.rest ≤ 6 * length l
  plays-short n room t l = (plays_right n room [] t l).short
