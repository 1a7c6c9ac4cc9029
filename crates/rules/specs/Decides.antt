-- A test decides a statement: it passes exactly where the statement holds. One law for each connective of the two.
use Rattle.std.specs.Prelude.{◌≡◌, refl, ◌⊎◌, Bool, true, false, cond, not, ◌&&◌, ◌||◌, List, [], ◌∷◌, ℕ, zero, suc, ◌≤◌, ◌<◌, eqb, leb}
use Rattle.std.proofs.Common.{sym, subst, inl, inr, ⊎_elim, not-suc-le-zero, eq-or-lt_of_le, le_of_suc-le-suc, arith, eqb-true, eq-eqb, leb-true, le-leb}
use Rattle.std.proofs.lemmas.Bool.{false≢true}
use Rattle.rules.specs.Sound.{Each, each, each_of, implies}
use Rattle.rules.specs.Family.{Family, Among, this, other}

pub record Decides (b : Bool) (P : Type 0) : Type 0 where
  pub holds : b ≡ true → P
  pub passes : P → b ≡ true

-- Two tests of one statement are the same.
pub same_test : {a b : Bool} {P : Type 0} → Decides a P → Decides b P → a ≡ b
same_test {a} {b} {P} d f = go a b d f
  where
    go : (a b : Bool) → Decides a P → Decides b P → a ≡ b
    go true true d f = refl
    go false false d f = refl
    go true false d f = sym (f.passes (d.holds refl))
    go false true d f = d.passes (f.holds refl)

-- ---- numbers

pub equals : {x y : ℕ} → Decides (eqb x y) (x ≡ y)
equals {x} {y} = record { holds = eqb-true x y; passes = eq-eqb x y }

-- `<` too, which is `≤` of the next number.
pub at_most : {x y : ℕ} → Decides (leb x y) (x ≤ y)
at_most {x} {y} = record { holds = leb-true x y; passes = le-leb x y }

-- ---- connectives

pub itself : {b : Bool} → Decides b (b ≡ true)
itself = record { holds = λ e. e; passes = λ e. e }

pub fails : {a : Bool} {A : Type 0} → Decides a A → Decides (not a) (A → ⊥)
fails {a} {A} d = go a d
  where
    go : (a : Bool) → Decides a A → Decides (not a) (A → ⊥)
    go true d = record { holds = λ e. absurd (false≢true e); passes = λ n. absurd (n (d.holds refl)) }
    go false d = record { holds = λ e x. false≢true (d.passes x); passes = λ n. refl }

pub if_so : {a b : Bool} {A B : Type 0} → Decides a A → Decides b B → Decides (implies a b) (A → B)
if_so {a} {b} {A} {B} d f = go a d
  where
    go : (a : Bool) → Decides a A → Decides (implies a b) (A → B)
    go true d = record { holds = λ e x. f.holds e; passes = λ g. f.passes (g (d.holds refl)) }
    go false d = record { holds = λ e x. absurd (false≢true (d.passes x)); passes = λ g. refl }

pub either : {a b : Bool} {A B : Type 0} → Decides a A → Decides b B → Decides (a || b) (A ⊎ B)
either {a} {b} {A} {B} d f = go a d
  where
    or_so : (a : Bool) → Decides a A → A ⊎ B → a || b ≡ true
    or_so true d s = refl
    or_so false d (inl x) = absurd (false≢true (d.passes x))
    or_so false d (inr y) = f.passes y

    go : (a : Bool) → Decides a A → Decides (a || b) (A ⊎ B)
    go true d = record { holds = λ e. inl (d.holds refl); passes = or_so true d }
    go false d = record { holds = λ e. inr (f.holds e); passes = or_so false d }

-- ---- parts: of a record, or of any R that is made of what the tests say

-- The last part of R, with which R is made.
pub last : {b : Bool} {B R : Type 0} → (R → B) → Decides b B → (B → R) → Decides b R
last part d made = record { holds = λ e. made (d.holds e); passes = λ r. d.passes (part r) }

-- A part of R before others; what it says may be used with the others.
pub first : {a b : Bool} {A R : Type 0} → (R → A) → Decides a A → (A → Decides b R) → Decides (a && b) R
first {a} {b} {A} {R} part d others = go a d
  where
    go : (a : Bool) → Decides a A → Decides (a && b) R
    go true d = record { holds = (others (d.holds refl)).holds; passes = λ r. (others (part r)).passes r }
    go false d = record { holds = λ e. absurd (false≢true e); passes = λ r. absurd (false≢true (d.passes (part r))) }

pub both : {a b : Bool} {A B : Type 0} → Decides a A → Decides b B → Decides (a && b) (A × B)
both d f = first (λ r. r.0) d (λ x. last (λ r. r.1) f (λ y. (x, y)))

-- ---- each number below n

cond-and : (a b : Bool) → cond a b false ≡ a && b
cond-and true b = refl
cond-and false b = refl

pub each_one : {n : ℕ} {p : ℕ → Bool} {P : ℕ → Type 0} → ((i : ℕ) → i < n → Decides (p i) (P i)) → Decides (each n p) (Each n P)
unfolding each
each_one {n = zero} d = record { holds = λ e i l. absurd (not-suc-le-zero l); passes = λ h. refl }
each_one {n = suc n} {p} {P} d =
    rw cond-and
    (first (λ h. h n (omega arith)) (d n (omega arith)) λ x.
    last (λ h i l. h i (omega arith)) (each_one {n = n} {p = p} {P = P} (λ i l. d i (omega arith))) λ h i l.
    ⊎_elim (λ e. subst P (sym e) x) (h i) (eq-or-lt_of_le (le_of_suc-le-suc l)))

-- ---- each family of a list

pub each_of_lem : {fs : List Family} {p : Family → Bool} {P : Family → Type 0} → ((f : Family) → Decides (p f) (P f)) → Decides (each_of fs p) ((f : Family) → Among f fs → P f)
unfolding each_of
each_of_lem {fs = []} d = record { holds = λ e f a. absurd (nothing a); passes = λ h. refl }
  where
    nothing : {f : Family} → Among f [] → ⊥
    nothing = elim [ ]
each_of_lem {fs = g ∷ fs} {p} {P} d =
    rw cond-and
    (first (λ h. h g this) (d g) λ x.
    last (λ h f a. h f (other a)) (each_of_lem {fs = fs} {p = p} {P = P} d) λ h.
    one x h)
  where
    one : P g → ((f : Family) → Among f fs → P f) → (f : Family) → Among f (g ∷ fs) → P f
    one x h f this = x
    one x h f (other a) = h f a
