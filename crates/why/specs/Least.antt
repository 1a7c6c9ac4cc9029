-- The least number that fails, and the first rule that is broken, found one after another.
use Rattle.std.specs.Prelude.{Some, None, ◌≡◌, ◌⊎◌, Bool, true, false, cond, ◌&&◌, ltb, leb}
use Rattle.std.proofs.Math.Path.{refl, subst}
use Rattle.std.proofs.Common.{sym, ltb-true, ltb-false, lt-ltb, le-ltb}
use Rattle.std.proofs.Math.Logic.{inl, inr}
use Prim.Native.Nat.{ℕ, zero, suc, ◌+◌, ◌-◌, ◌≤◌, ◌<◌}
use Rattle.std.proofs.Math.Decide.{ℕ_discrete}
use native.Mathlib.Omega.{arith}
use Rattle.rules.specs.Sizes.{task_count, level_count}
use Rattle.rules.specs.Table.{Table}
use Rattle.why.specs.declared.Reason.{Reason}
use Rattle.why.specs.Broken.{record_count, message_count}
use Rattle.why.specs.Tests.{least, first_at, found_at, is_kept, record_end, reason, why_from, why_of, rule_end}

-- ---- a turn of a loop

module _ (p : ℕ → Bool) where
  -- The number i passes, and others are to come;
  pub least_next : (n i : ℕ) → i < n → p i ≡ true → least (n - i) i p ≡ least (n - (i + 1)) (i + 1) p
  unfolding least
  least_next n i h e =
      let s : n - i ≡ suc (n - (i + 1)) = omega arith in
      let o : i + 1 ≡ suc i = omega arith in
      rw (s, o) (rw e refl)

  -- it fails;
  pub least_stop : (n i : ℕ) → i < n → p i ≡ false → least (n - i) i p ≡ i
  unfolding least
  least_stop n i h e = let s : n - i ≡ suc (n - (i + 1)) = omega arith in rw s (rw e refl)

  -- and none is left.
  pub least_end : (n i : ℕ) → n ≤ i → least (n - i) i p ≡ i
  unfolding least
  least_end n i h = let s : n - i ≡ zero = omega arith in rw s refl

-- The records of a rule, from the first on.
module _ (c : ℕ) (t : Table) where
  pub first_start : {n : ℕ} → n ≡ record_end c → first_at c t ≡ least (n - 0) 0 (λ i. is_kept c i t)
  unfolding first_at
  first_start {n} e = let z : n - 0 ≡ record_end c = omega (arith, e) in rw z

-- What is found, in the code's words.
module _ (c : ℕ) (t : Table) where
  pub some_found : {i : ℕ} → i < record_end c → first_at c t ≡ i → Some i ≡ found_at c t
  some_found {i} h e = rw (e, lt-ltb i (record_end c) h)

  pub none_found : {i : ℕ} → record_end c ≤ i → first_at c t ≡ i → None ≡ found_at c t
  none_found {i} h e = rw (e, le-ltb i (record_end c) h)

  pub found_some : {i : ℕ} → found_at c t ≡ Some i → (i < record_end c) × (first_at c t ≡ i)
  found_some {i} = go (ltb (first_at c t) (record_end c)) refl
    where
      go : (b : Bool) → ltb (first_at c t) (record_end c) ≡ b → cond b (Some (first_at c t)) None ≡ Some i → (i < record_end c) × (first_at c t ≡ i)
      go true h e = let k : first_at c t ≡ i = cc in (omega (arith, k, ltb-true (first_at c t) (record_end c) h), k)
      go false h e = absurd (cc)

  pub found_none : found_at c t ≡ None → record_end c ≤ first_at c t
  found_none = go (ltb (first_at c t) (record_end c)) refl
    where
      go : (b : Bool) → ltb (first_at c t) (record_end c) ≡ b → cond b (Some (first_at c t)) None ≡ None → record_end c ≤ first_at c t
      go true h e = absurd (cc)
      go false h e = ltb-false (first_at c t) (record_end c) h

pub end_most : (c : ℕ) → record_end c ≤ record_count
unfolding record_end
end_most c = go (leb 0x90 c && ltb c 0xA0) (leb 0x55 c && ltb c 0x60) (leb 0xB8 c)
  where
    go : (a b d : Bool) → cond a record_count (cond b message_count (cond d level_count task_count)) ≤ record_count
    go true b d = omega arith
    go false true d = omega arith
    go false false true = omega arith
    go false false false = omega arith

-- The rules, from the first on.
module _ (t : Table) where
  pub why_start : why_of t ≡ why_from (rule_end - 0) 0 t
  unfolding why_of
  why_start = refl

  pub why_next : (n c : ℕ) → c < n → record_end c ≤ first_at c t → why_from (n - c) c t ≡ why_from (n - (c + 1)) (c + 1) t
  unfolding why_from
  why_next n c h e =
      let s : n - c ≡ suc (n - (c + 1)) = omega arith in
      let o : c + 1 ≡ suc c = omega arith in
      rw (s, o) (rw (le-ltb (first_at c t) (record_end c) e) refl)

  pub why_stop : (n c : ℕ) → c < n → first_at c t < record_end c → why_from (n - c) c t ≡ reason c (first_at c t)
  unfolding why_from
  why_stop n c h e = let s : n - c ≡ suc (n - (c + 1)) = omega arith in rw s (rw (lt-ltb (first_at c t) (record_end c) e) refl)

  pub why_end : (n c : ℕ) → n ≤ c → why_from (n - c) c t ≡ reason 0 0
  unfolding why_from
  why_end n c h = let s : n - c ≡ zero = omega arith in rw s refl

-- ---- what is found

-- r is the least of the n numbers from i on that fails.
pub record Least (n i : ℕ) (p : ℕ → Bool) (r : ℕ) : Type 0 where
  pub from : i ≤ r
  pub within : r ≤ i + n
  pub before : (j : ℕ) → i ≤ j → j < r → p j ≡ true
  pub fails : r < i + n → p r ≡ false

pub least_is : (n i : ℕ) (p : ℕ → Bool) → Least n i p (least n i p)
unfolding least
least_is zero i p = record { from = omega arith; within = omega arith; before = λ j a b. absurd (omega arith); fails = λ h. absurd (omega arith) }
least_is (suc n) i p = go (p i) refl (least_is n (suc i) p)
  where
    go : (b : Bool) → p i ≡ b → Least n (suc i) p (least n (suc i) p) → Least (suc n) i p (cond b (least n (suc i) p) i)
    go true e l =
        record {
          from = omega (arith, l.from);
          within = omega (arith, l.within);
          before = λ j a b. at j a b (ℕ_discrete i j);
          fails = λ h. l.fails (omega arith);
        }
      where
        at : (j : ℕ) → i ≤ j → j < least n (suc i) p → Dec (i ≡ j) → p j ≡ true
        at j a b (yes q) = rw (sym q) e
        at j a b (no q) = l.before j (omega arith) b
    go false e l = record { from = omega arith; within = omega arith; before = λ j a b. absurd (omega arith); fails = λ h. e }

-- Each record keeps rule c.
abbrev pub AllKeep : ℕ → Table → Type 0
AllKeep c t = (i : ℕ) → i < record_end c → is_kept c i t ≡ true

-- The rules before d are kept, and its first record that fails is i.
pub record FirstBroken (c n d i : ℕ) (t : Table) : Type 0 where
  pub within : (c ≤ d) × (d < c + n)
  pub rules : (e : ℕ) → c ≤ e → e < d → AllKeep e t
  pub records : (j : ℕ) → j < i → is_kept d j t ≡ true
  pub inside : i < record_end d
  pub fails : is_kept d i t ≡ false

abbrev pub FoundFrom : (n c : ℕ) → Table → Reason → Type 0
FoundFrom n c t r = ((r ≡ reason 0 0) × ((e : ℕ) → c ≤ e → e < c + n → AllKeep e t)) ⊎ FirstBroken c n r.rule r.number t

pub first_is : (c : ℕ) (t : Table) → Least (record_end c) 0 (λ i. is_kept c i t) (first_at c t)
unfolding first_at
first_is c t = least_is (record_end c) 0 (λ i. is_kept c i t)

module _ (t : Table) where
  -- No record fails where the first that fails is beyond the last.
  keep_all : (c : ℕ) → record_end c ≤ first_at c t → AllKeep c t
  keep_all c h i l = (first_is c t).before i (omega arith) (omega arith)

  found_here : (n c : ℕ) → first_at c t < record_end c → FirstBroken c (suc n) c (first_at c t) t
  found_here n c h =
      let f = first_is c t in
      record {
        within = (omega arith, omega arith);
        rules = λ e a b. absurd (omega arith);
        records = λ j l. f.before j (omega arith) l;
        inside = h;
        fails = f.fails (omega arith);
      }

  found-later : (n c d i : ℕ) → AllKeep c t → FirstBroken (suc c) n d i t → FirstBroken c (suc n) d i t
  found-later n c d i h b =
      record {
        within = (omega (arith, b.within.0), omega (arith, b.within.1));
        rules = λ e a l. at e a l (ℕ_discrete c e);
        records = b.records;
        inside = b.inside;
        fails = b.fails;
      }
    where
      at : (e : ℕ) → c ≤ e → e < d → Dec (c ≡ e) → AllKeep e t
      at e a l (yes q) = subst (λ (x : ℕ). AllKeep x t) q h
      at e a l (no q) = b.rules e (omega arith) l

  found_from : (n c : ℕ) → FoundFrom n c t (why_from n c t)
  unfolding why_from
  found_from zero c = inl (refl, λ e a b. absurd (omega arith))
  found_from (suc n) c = go (ltb (first_at c t) (record_end c)) refl (found_from n (suc c))
    where
      on : AllKeep c t → {r : Reason} → FoundFrom n (suc c) t r → FoundFrom (suc n) c t r
      on h (inl (q, k)) = inl (q, λ e a b. at e a b (ℕ_discrete c e))
        where
          at : (e : ℕ) → c ≤ e → e < c + suc n → Dec (c ≡ e) → AllKeep e t
          at e a b (yes z) = subst (λ (x : ℕ). AllKeep x t) z h
          at e a b (no z) = k e (omega arith) (omega arith)
      on h {r} (inr b) = inr (found-later n c r.rule r.number h b)

      go : (b : Bool) → ltb (first_at c t) (record_end c) ≡ b → FoundFrom n (suc c) t (why_from n (suc c) t) → FoundFrom (suc n) c t (cond b (reason c (first_at c t)) (why_from n (suc c) t))
      go true e later = inr (found_here n c (ltb-true (first_at c t) (record_end c) e))
      go false e later = on (keep_all c (ltb-false (first_at c t) (record_end c) e)) later

  -- What `why_of` finds: nothing, where every rule is kept; else the first.
  pub found : FoundFrom rule_end 0 t (why_of t)
  unfolding why_of
  found = found_from rule_end 0
