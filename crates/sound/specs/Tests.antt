-- More laws of tests that decide statements, and of tests of each number below n.
use Rattle.std.specs.Prelude.{◌≡◌, refl, Bool, true, false, cond, not, ◌&&◌, ◌||◌, ℕ, zero, suc, ◌+◌, ◌≤◌, ◌<◌}
use Rattle.std.proofs.Common.{sym, ◌∙◌, true≢false, not-suc-le-zero, add-one, arith}
use Rattle.std.proofs.lemmas.Bool.{false≢true}
use Rattle.std.proofs.Math.Decide.{ℕ_discrete}
use Rattle.rules.specs.Sound.{each}
use Rattle.rules.specs.Decides.{Decides}

-- ---- two tests

-- Where the first fails, the second is asked.
pub otherwise : {a b : Bool} {A B : Type 0} → Decides a A → Decides b B → Decides (a || b) ((A → ⊥) → B)
otherwise {a} {b} {A} {B} d f = go a d
  where
    go : (a : Bool) → Decides a A → Decides (a || b) ((A → ⊥) → B)
    go true d = record { holds = λ e n. absurd (n (d.holds refl)); passes = λ g. refl }
    go false d = record { holds = λ e n. f.holds e; passes = λ g. f.passes (g (λ x. false≢true (d.passes x))) }

pub unless : {a b : Bool} {A B : Type 0} → Decides a A → Decides b B → Decides (not a || b) (A → B)
unless {a} {b} {A} {B} d f = go a d
  where
    go : (a : Bool) → Decides a A → Decides (not a || b) (A → B)
    go true d = record { holds = λ e x. f.holds e; passes = λ g. f.passes (g (d.holds refl)) }
    go false d = record { holds = λ e x. absurd (false≢true (d.passes x)); passes = λ g. refl }

-- One test or another, by a third.
pub by_cases : {a b c : Bool} {A R : Type 0} → Decides a A → (A → Decides b R) → ((A → ⊥) → Decides c R) → Decides (cond a b c) R
by_cases {a} {b} {c} {A} {R} d f g = go a d
  where
    go : (a : Bool) → Decides a A → Decides (cond a b c) R
    go true d = f (d.holds refl)
    go false d = g (λ x. false≢true (d.passes x))

pub always : {R : Type 0} → R → Decides true R
always r = record { holds = λ e. r; passes = λ x. refl }

pub never : {R : Type 0} → (R → ⊥) → Decides false R
never n = record { holds = λ e. absurd (false≢true e); passes = λ r. absurd (n r) }

pub and_first : (a b : Bool) → a && b ≡ true → a ≡ true
and_first true b e = refl
and_first false b e = e

pub and_second : (a b : Bool) → a && b ≡ true → b ≡ true
and_second true b e = e
and_second false b e = absurd (false≢true e)

-- ---- each number below n: a loop that goes on to the end, and one that stops

-- What a test told of each number below n is whether p holds of it.
abbrev pub Tells : ℕ → (ℕ → Bool → Type 0) → (ℕ → Bool) → Type 0
Tells n told p = (i : ℕ) (b : Bool) → i < n → told i b → b ≡ p i

pub each_none : (p : ℕ → Bool) → true ≡ each 0 p
unfolding each
each_none p = refl

pub each_and : (p : ℕ → Bool) (n : ℕ) {a b : Bool} → a ≡ p n → b ≡ each n p → a && b ≡ each (n + 1) p
unfolding each
each_and p n d e = rw (add-one, d, e) (go (p n))
  where
    go : (c : Bool) → c && each n p ≡ cond c (each n p) false
    go true = refl
    go false = refl

pub each_more : (p : ℕ → Bool) (n : ℕ) → each n p ≡ true → p n ≡ true → each (n + 1) p ≡ true
unfolding each
each_more p n h e = rw add-one (rw e h)

pub each_stop : (p : ℕ → Bool) (n i : ℕ) → i < n → p i ≡ false → each n p ≡ false
unfolding each
each_stop p zero i h e = absurd (not-suc-le-zero h)
each_stop p (suc n) i h e = go (ℕ_discrete i n) (p n) refl (λ l. each_stop p n i l e)
  where
    go : Dec (i ≡ n) → (b : Bool) → p n ≡ b → (i < n → each n p ≡ false) → cond b (each n p) false ≡ false
    go d false q rest = refl
    go (yes l) true q rest = absurd (true≢false (sym q ∙ rw l at e))
    go (no l) true q rest = rest (omega arith)

-- Where all from n on pass, those below n tell.
pub each_on : (p : ℕ → Bool) (n m : ℕ) → n ≤ m → ((i : ℕ) → n ≤ i → i < m → p i ≡ true) → each n p ≡ each m p
unfolding each
each_on p n zero h f = let e : n ≡ 0 = omega arith in rw e
each_on p n (suc m) h f = go (ℕ_discrete n (suc m)) (λ l. each_on p n m l (λ i a b. f i a (omega arith)))
  where
    go : Dec (n ≡ suc m) → (n ≤ m → each n p ≡ each m p) → each n p ≡ cond (p m) (each m p) false
    go (yes e) rest = rw e
    go (no d) rest = rw (f m (omega arith) (omega arith)) (rest (omega arith))
