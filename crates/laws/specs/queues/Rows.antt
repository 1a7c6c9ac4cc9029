-- The families stand in a row: each has the state and the queues next to those of the one before it. What follows for states, queues and
-- numbers, for a row of any length.
use Rattle.std.specs.Prelude.{◌≡◌, refl, ◌≢◌, Bool, true, false, List, [], ◌∷◌, ℕ, ◌+◌, ◌≤◌, ◌<◌, eqb, length}
use Rattle.std.proofs.Common.{arith, eqb-true, eq-eqb, ne_eqb}
use Rattle.std.proofs.lemmas.Bool.{eqb-false}
use Rattle.rules.specs.Sizes.{delayed}
use Rattle.rules.specs.Table.{queue_count, able_queue}
use Rattle.rules.specs.Family.{Family, waiters_of, semaphores, mutexes, groups, channels, families, last_state, Among, this, other, of_state, objects_in}

-- From this state and this queue on, up to this queue.
pub data Laid : (state queue end : ℕ) → List Family → Type 0 where
  over : {s q : ℕ} → Laid s q q []
  more : {f : Family} {e : ℕ} {fs : List Family} → Laid (f.state + 1) (f.first + f.count) e fs → Laid f.state f.first e (f ∷ fs)

-- The families are so.
pub laid : Laid (delayed + 1) (able_queue + 1) queue_count families
laid = more (more (more (more over)))

pub among-semaphores : Among semaphores families
among-semaphores = this

pub among-mutexes : Among mutexes families
among-mutexes = other this

pub among-groups : Among groups families
among-groups = other (other this)

pub among-channels : Among channels families
among-channels = other (other (other this))

-- What holds of each of them.
pub of_families : (P : Family → Type 0) → P semaphores → P mutexes → P groups → P channels → (f : Family) → Among f families → P f
of_families P x y z v f this = x
of_families P x y z v f (other this) = y
of_families P x y z v f (other (other this)) = z
of_families P x y z v f (other (other (other this))) = v
of_families P x y z v f (other (other (other (other a)))) = elim a [ ]

-- ---- a row of any length

laid_end : {s q e : ℕ} {fs : List Family} → Laid s q e fs → q ≤ e
laid_end over = omega arith
laid_end (more r) = omega (arith, laid_end r)

-- Where one of the row is.
record Within (s q e : ℕ) (fs : List Family) (f : Family) : Type 0 where
  state : s ≤ f.state
  known : f.state < s + length fs
  first : q ≤ f.first
  last : f.first + f.count ≤ e

within : {s q e : ℕ} {fs : List Family} {f : Family} → Laid s q e fs → Among f fs → Within s q e fs f
within over a = elim a [ ]
within (more r) this = record { state = omega arith; known = omega arith; first = omega arith; last = laid_end r }
within (more r) (other a) = let w = within r a in record { state = omega (arith, w.state); known = omega (arith, w.known); first = omega (arith, w.first); last = w.last }

-- Its state says what it says.
state_of : {s q e : ℕ} {fs : List Family} {f : Family} → Laid s q e fs → Among f fs → (part : Family → ℕ) (none : ℕ) → of_state fs f.state part none ≡ part f
unfolding of_state
state_of over a part none = elim a [ ]
state_of {f} (more r) this part none = rw (eq-eqb f.state f.state refl)
state_of {f} (more {f = g} r) (other a) part none = rw (ne_eqb f.state g.state (λ e. omega (arith, (within r a).state))) (state_of r a part none)

-- Two of one state are one,
same_state : {s q e : ℕ} {fs : List Family} {f g : Family} → Laid s q e fs → Among f fs → Among g fs → f.state ≡ g.state → f ≡ g
same_state r this this x = refl
same_state (more r) this (other b) x = absurd (omega (arith, (within r b).state))
same_state (more r) (other a) this x = absurd (omega (arith, (within r a).state))
same_state {s = s} (more r) (other a) (other b) x = same_state {s = s + 1} r a b x

-- and so are two with one queue, of one number.
same_queue : {s q e : ℕ} {fs : List Family} {f g : Family} → Laid s q e fs → Among f fs → Among g fs → (m n : ℕ) → m < f.count → n < g.count → waiters_of f m ≡ waiters_of g n
    → (f.state ≡ g.state) × (m ≡ n)
same_queue r this this m n l k x = (refl, omega arith)
same_queue (more r) this (other b) m n l k x = absurd (omega (arith, (within r b).first))
same_queue (more r) (other a) this m n l k x = absurd (omega (arith, (within r a).first))
same_queue {s = s} (more r) (other a) (other b) m n l k x = same_queue {s = s + 1} r a b m n l k x

-- A state is that of one of the row, or of none.
pub data Found (fs : List Family) (state : ℕ) : Type 0 where
  one : (f : Family) → Among f fs → state ≡ f.state → Found fs state
  nobody : ((f : Family) → Among f fs → state ≢ f.state) → ((part : Family → ℕ) (none : ℕ) → of_state fs state part none ≡ none) → Found fs state

find : (fs : List Family) (state : ℕ) → Found fs state
unfolding of_state
find [] state = nobody (λ f. elim [ ]) (λ part none. refl)
find (g ∷ fs) state = go (eqb state g.state) refl (find fs state)
  where
    go : (b : Bool) → eqb state g.state ≡ b → Found fs state → Found (g ∷ fs) state
    go true e x = one g this (eqb-true _ _ e)
    go false e (one f a s) = one f (other a) s
    go false e (nobody d z) = nobody (neither (eqb-false _ _ e) d) (λ part none. rw e (z part none))
      where
        neither : state ≢ g.state → ((f : Family) → Among f fs → state ≢ f.state) → (f : Family) → Among f (g ∷ fs) → state ≢ f.state
        neither n d f this = n
        neither n d f (other a) = d f a

-- ---- the families

pub found : (state : ℕ) → Found families state
found state = find families state

module _ {f : Family} (a : Among f families) where
  -- Its state is a wait's, its queues are objects' queues.
  pub waiting : delayed < f.state
  waiting = omega (arith, (within laid a).state)

  pub known : f.state ≤ last_state
  known = omega (arith, (within laid a).known)

  pub first_queue : able_queue < f.first
  first_queue = omega (arith, (within laid a).first)

  pub last_queue : f.first + f.count ≤ queue_count
  last_queue = (within laid a).last

  pub by_state : (part : Family → ℕ) (none : ℕ) → of_state families f.state part none ≡ part f
  by_state = state_of laid a

  pub numbers : objects_in f.state ≡ f.count
  numbers = by_state (λ g. g.count) 1

  pub one_family : {g : Family} → Among g families → f.state ≡ g.state → f ≡ g
  one_family b = same_state laid a b

  pub one_queue : {g : Family} → Among g families → (m n : ℕ) → m < f.count → n < g.count → waiters_of f m ≡ waiters_of g n → (f.state ≡ g.state) × (m ≡ n)
  one_queue b = same_queue laid a b
