-- What each task is given along the chains, in a table.
use Rattle.std.specs.Prelude.{◌≡◌, refl, Bool, true, false, cond, ◌&&◌, ℕ, zero, suc, ◌≤◌, ◌<◌, min, eqb, ltb}
use Rattle.std.proofs.Common.{sym, ◌∙◌, not-suc-le-zero, arith, ext_get_or, eqb-true, ltb-true, ltb-false}
use Rattle.std.proofs.Math.Path.{ap}
use Rattle.std.proofs.lemmas.Bool.{and_parts}
use mathlib.Core.List.{List, [], ◌∷◌}
use Rattle.std.proofs.Math.ListN.{length, get_or}
use Rattle.rules.specs.Sizes.{task_count}
use Rattle.rules.specs.Table.{Table}
use Rattle.rules.specs.Move.{next, base_of, fresh_in, put_work}
use Rattle.rules.specs.Sound.{Shaped}
use Rattle.rules.proofs.Tested.{ends}
use Rattle.rules.specs.Afresh.{here, fresh_is}
use Rattle.laws.specs.chains.Graph.{work-base, work-fresh}
use Rattle.columns.specs.Rows.{tabulate}
use Rattle.columns.specs.Rows.{tabulate-long, tabulate_at, tabulate_same}
use Rattle.chain.specs.Carry.{lower, not_given, HadTurns, settled-byte}

-- ---- nothing is given yet

-- 32 bytes of 255.
pub record NoneGiven (l : List ℕ) : Type 0 where
  pub size : length l ≡ task_count
  pub at : (i : ℕ) → i < task_count → get_or l i 0 ≡ not_given

-- Whether each of the bytes says so.
unfoldable pub is_blank : List ℕ → Bool
is_blank [] = true
is_blank (x ∷ xs) = eqb x not_given && is_blank xs

blank_at : (l : List ℕ) (i : ℕ) → is_blank l ≡ true → i < length l → get_or l i 0 ≡ not_given
unfolding is_blank
blank_at [] i e h = absurd (not-suc-le-zero h)
blank_at (x ∷ xs) zero e h = eqb-true x not_given (and_parts (eqb x not_given) (is_blank xs) e).0
blank_at (x ∷ xs) (suc i) e h = blank_at xs i (and_parts (eqb x not_given) (is_blank xs) e).1 (omega arith)

pub none_given : (l : List ℕ) → length l ≡ task_count → is_blank l ≡ true → NoneGiven l
none_given l z e = record { size = z; at = λ i h. blank_at l i e (omega arith) }

-- ---- what each task is given

-- The working priority of task i, worked out afresh, where it has that from another: where it is smaller than its own base priority.
unfoldable pub given_to : Table → ℕ → ℕ
given_to t i = let worked = fresh_in t i in cond (ltb worked (base_of t i)) worked not_given

unfoldable pub given_to_all : Table → List ℕ
given_to_all t = tabulate task_count (given_to t)

pub record Given (t : Table) (l : List ℕ) : Type 0 where
  pub all : l ≡ given_to_all t

-- So it is once all tasks have had their turn.
pub settled-given : (t : Table) (l : List ℕ) → Shaped t → ((i : ℕ) → i < task_count → base_of t i ≤ not_given) → HadTurns task_count (next t) (base_of t) task_count l → l ≡ given_to_all t
unfolding fresh_in given_to given_to_all
settled-given t l h small s =
    ext_get_or 0 l (given_to_all t) (s.size ∙ sym (tabulate-long task_count (given_to t))) λ i p.
    let m : i < task_count = omega (arith, s.size) in
    settled-byte (ends t h) s i m (small i m) ∙ sym (tabulate_at task_count (given_to t) i 0 m)

module _ {t : Table} {l : List ℕ} (g : Given t l) where
  pub given-size : length l ≡ task_count
  unfolding given_to_all
  given-size = ap length g.all ∙ tabulate-long task_count (given_to t)

  given_at : (i : ℕ) → i < task_count → get_or l i 0 ≡ given_to t i
  unfolding given_to_all
  given_at i h = ap (λ (k : List ℕ). get_or k i 0) g.all ∙ tabulate_at task_count (given_to t) i 0 h

  -- The smaller of its own base priority and of what it is given is each task's working priority, worked out afresh.
  pub given-fresh : (i : ℕ) → i < task_count → base_of t i ≤ not_given → Shaped t → lower (base_of t) l i ≡ fresh_in t i
  unfolding given_to fresh_in
  given-fresh i h b shaped = rw (given_at i h) (go (ltb (fresh_in t i) (base_of t i)) refl)
    where
      own : fresh_in t i ≤ base_of t i
      own = (fresh_is (base_of t) (ends t shaped) h).least i h here

      go : (x : Bool) → ltb (fresh_in t i) (base_of t i) ≡ x → min (base_of t i) (cond x (fresh_in t i) not_given) ≡ fresh_in t i
      go true e = omega (arith, ltb-true (fresh_in t i) (base_of t i) e)
      go false e = omega (arith, own, ltb-false (fresh_in t i) (base_of t i) e)

-- A new working priority changes nothing of it.
pub given-work : {t : Table} {l : List ℕ} (i p : ℕ) → i < task_count → Given t l → Given (put_work t i p) l
unfolding given_to given_to_all
given-work {t} i p h g =
    record {
      all = g.all ∙ tabulate_same task_count _ _ (λ j m. rw (ap (λ (b : ℕ → ℕ). b j) (work-base t i p h), ap (λ (f : ℕ → ℕ). f j) (work-fresh t i p h)));
    }
