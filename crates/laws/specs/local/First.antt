-- The local number by first waiters, where each mutex has its waiters in the order of their numbers.
use Rattle.std.specs.Prelude.{◌≡◌, refl, Bool, true, false, ◌&&◌, List, ℕ, ◌≤◌, ◌<◌, eqb, ltb, length, get_or}
use Rattle.std.proofs.Common.{sym, ap, ◌∙◌, ⊎_elim, arith, eqb-true, ltb-true, eq-eqb, lt-ltb}
use Rattle.std.proofs.lemmas.Bool.{false≢true}
use Rattle.std.proofs.Math.ListN.{get_or-eq_default}
use Rattle.rules.specs.Afresh.{lt_or_le}
use Rattle.laws.specs.local.Local.{Least, by_firsts}
use Rattle.laws.specs.local.Ring.{Mutexes}
use Rattle.laws.specs.local.Least.{smallest-waiters}

-- `first m` waits for m, and works at a number no greater than those of the others that do.
pub record Firsts (c n : ℕ) (next holder waits first work : ℕ → ℕ) : Type 0 where
  pub held : Mutexes c n next holder waits
  pub stands : (m : ℕ) → m < c → first m < n → next (first m) ≡ holder m
  pub least : (j : ℕ) → j < n → next j < n → (first (waits j) < n) × (work (first (waits j)) ≤ work j)

both : (a b : Bool) → (a && b) ≡ true → (a ≡ true) × (b ≡ true)
both true b e = (refl, e)
both false b e = absurd (false≢true e)

-- The smallest of the base of i and of the numbers of the first waiters of the mutexes that i holds is its local number.
pub firsts-least : {c n : ℕ} {next holder waits first work : ℕ → ℕ} (base : ℕ → ℕ) → Firsts c n next holder waits first work → (i : ℕ) → i < n
    → Least n next base work i (by_firsts n c holder first base work i)
unfolding by_firsts
firsts-least {c} {n} {next} {holder} {waits} {first} {work} base f i l =
    smallest-waiters c (λ m. eqb (holder m) i && ltb (first m) n) (λ m. work (first m))
    (λ m k t.
    let (h, s) = both (eqb (holder m) i) (ltb (first m) n) t in
    let task = ltb-true (first m) n s in
    (first m, task, f.stands m k task ∙ eqb-true (holder m) i h, refl))
    (λ j k e.
    let waits-task : next j < n = omega arith in
    let (u, q) = f.held j k waits-task in
    let (task, h) = f.least j k waits-task in
    (waits j, u, rw (eq-eqb (holder (waits j)) i (sym q ∙ e), lt-ltb (first (waits j)) n task), h))

-- ---- from queues in order

-- The queue of each mutex: those who wait for it and nobody else, in the order of their numbers.
pub record Queues (c n : ℕ) (next holder waits work : ℕ → ℕ) (queue : ℕ → List ℕ) : Type 0 where
  pub held : Mutexes c n next holder waits
  pub members : (m : ℕ) → m < c → (a : ℕ) → a < length (queue m) → (get_or (queue m) a n < n) × (next (get_or (queue m) a n) ≡ holder m)
  pub all : (j : ℕ) → j < n → next j < n → (a : ℕ) × (a < length (queue (waits j))) × (get_or (queue (waits j)) a n ≡ j)
  pub ordered : (m : ℕ) → m < c → (a b : ℕ) → a ≤ b → b < length (queue m) → work (get_or (queue m) a n) ≤ work (get_or (queue m) b n)

-- The first of a queue; no task where it is empty.
abbrev pub first_of : ℕ → (ℕ → List ℕ) → ℕ → ℕ
first_of n queue m = get_or (queue m) 0 n

pub queues-firsts : {c n : ℕ} {next holder waits work : ℕ → ℕ} {queue : ℕ → List ℕ} → Queues c n next holder waits work queue → Firsts c n next holder waits (first_of n queue) work
queues-firsts {c} {n} {next} {holder} {waits} {work} {queue} q =
    record {
      held = q.held;
      stands = λ m l task.
          ⊎_elim
          (λ some. (q.members m l 0 some).1)
          (λ none. absurd (omega (arith, get_or-eq_default (queue m) n {n = 0} none)))
          (lt_or_le 0 (length (queue m)));
      least = λ j l w.
          let (a, k, e) = q.all j l w in
          let m = (q.held j l w).0 in
          ((q.members (waits j) m 0 (omega arith)).0, omega (arith, q.ordered (waits j) m 0 a (omega arith) k, ap work e));
    }
