-- A call from C, and what the rules read of it.
use Rattle.std.specs.Prelude.{Bool, Option, Some, None, List, [], ◌∷◌, ◌++◌, ℕ, zero, suc, ◌<◌, get_or}
use Rattle.std.proofs.Common.{arith}
use Rattle.rules.specs.Sizes.{ticks_round}
use Rattle.rules.specs.Table.{Table}
use Rattle.rules.specs.Step.{Outcome}
use Rattle.rules.specs.Kinds.{is_interrupt, plain_kind, reading}
use Rattle.rules.specs.Port.{port_step}
use Rattle.rules.specs.declared.Call.{Call}
use Rattle.rules.specs.declared.Reading.{Reading}
use Rattle.laws.specs.numbers.Tape.{BoundedIn, kind-bounded}
use Rattle.laws.specs.order.Order.{Made}

-- "a kind, three numbers", and "the port may take more numbers": any kind, and numbers below 2^32, as their types have it.
pub record PortCall : Type 0 where
  pub kind : ℕ
  pub a : ℕ
  pub b : ℕ
  pub c : ℕ
  pub d : ℕ
  pub e : ℕ
  pub f : ℕ
  pub small_a : a < ticks_round
  pub small_b : b < ticks_round
  pub small_c : c < ticks_round
  pub small_d : d < ticks_round
  pub small_e : e < ticks_round
  pub small_f : f < ticks_round

abbrev pub given_by : PortCall → List ℕ
given_by p = p.a ∷ p.b ∷ p.c ∷ p.d ∷ p.e ∷ p.f ∷ []

abbrev pub reading_of : PortCall → Reading
reading_of p = reading p.kind (given_by p)

-- What the rules do of it.
abbrev pub rule_of : PortCall → Table → Outcome
rule_of p = port_step p.kind p.a p.b p.c p.d p.e p.f

-- ---- its numbers have 32 bits

pub reading-bounded : (p : PortCall) → BoundedIn (reading_of p)
unfolding reading
reading-bounded p = kind-bounded (plain_kind p.kind) (given_by p) (is_interrupt p.kind) small
  where
    small : (i : ℕ) → get_or (given_by p) i 0 < ticks_round
    small zero = p.small_a
    small (suc zero) = p.small_b
    small (suc (suc zero)) = p.small_c
    small (suc (suc (suc zero))) = p.small_d
    small (suc (suc (suc (suc zero)))) = p.small_e
    small (suc (suc (suc (suc (suc zero))))) = p.small_f
    small (suc (suc (suc (suc (suc (suc i)))))) = omega arith

-- ---- the calls of the rules

-- One call, or none where the list lacks the kind.
abbrev pub made_of : (call : Option Call) (interrupt : Bool) → BoundedIn (record { call = call; interrupt = interrupt }) → List Made
made_of (Some c) interrupt b = record { call = c; interrupt = interrupt; bounded = b } ∷ []
made_of None interrupt b = []

unfoldable pub made_in : (r : Reading) → BoundedIn r → List Made
made_in r b = made_of r.call r.interrupt b

abbrev pub made_by : PortCall → List Made
made_by p = made_in (reading_of p) (reading-bounded p)

unfoldable pub made_by_all : List PortCall → List Made
made_by_all [] = []
made_by_all (p ∷ ps) = made_by p ++ made_by_all ps
