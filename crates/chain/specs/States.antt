-- The states of several tasks taken together, which tell that none of them waits for a mutex.
use Rattle.std.specs.Prelude.{◌≡◌, List, ℕ, zero, suc, ◌+◌, ◌≤◌, ◌<◌}
use Rattle.std.proofs.Common.{◌∙◌, add_assoc, arith}
use Rattle.std.proofs.Math.Decide.{ℕ_discrete}
use Rattle.std.specs.Int.Bits.{bit_or, or_zero_r}
use Rattle.std.proofs.lemmas.Nat.{le_or_l, le_or_r}
use Rattle.rules.specs.Sizes.{task_count, waits_mutex}
use Rattle.rules.specs.Table.{Table, task_of, holder_of}
use Rattle.rules.specs.Move.{next, base_of}
use Rattle.laws.specs.chains.Graph.{next_is, waits_none}
use Rattle.chain.specs.Carry.{HadTurns, settled_past}

-- The states of the n tasks from a on, one bit over another.
unfoldable pub states_from : ℕ → ℕ → Table → ℕ
states_from zero a t = 0
states_from (suc n) a t = bit_or (task_of t a).state (states_from n (a + 1) t)

-- Those of eight, as the code takes them.
pub states_eight : (t : Table) (a : ℕ) → let s : ℕ → ℕ = λ i. (task_of t i).state in
    bit_or (s a) (bit_or (s (a + 1)) (bit_or (s (a + 2)) (bit_or (s (a + 3)) (bit_or (s (a + 4)) (bit_or (s (a + 5)) (bit_or (s (a + 6)) (s (a + 7)))))))) ≡ states_from 8 a t
unfolding states_from
states_eight t a = simp (add_assoc, or_zero_r)

-- None of them is greater than all together.
state-below : (n a i : ℕ) (t : Table) → a ≤ i → i < a + n → (task_of t i).state ≤ states_from n a t
unfolding states_from
state-below zero a i t g h = absurd (omega arith)
state-below (suc n) a i t g h = go (ℕ_discrete i a) (λ (m : a + 1 ≤ i). state-below n (a + 1) i t m (omega arith))
  where
    go : Dec (i ≡ a) → (a + 1 ≤ i → (task_of t i).state ≤ states_from n (a + 1) t) → (task_of t i).state ≤ bit_or (task_of t a).state (states_from n (a + 1) t)
    go (yes y) f = rw y (le_or_l (task_of t a).state (states_from n (a + 1) t))
    go (no y) f = omega (arith, f (omega arith), le_or_r (task_of t a).state (states_from n (a + 1) t))

-- Where all together are below the state of a wait for a mutex, none of the tasks has a turn to take.
pub states_past : (t : Table) {l : List ℕ} (n a : ℕ) → states_from n a t < waits_mutex
    → HadTurns task_count (next t) (base_of t) a l → HadTurns task_count (next t) (base_of t) (a + n) l
states_past t n a b s =
    settled_past n (λ i g h. omega (arith, next_is t i ∙ waits_none (holder_of t) (task_of t i) (λ e. omega (arith, e, state-below n a i t g h)))) s
