-- What the port answers: "The queues by themselves, and the C port".
use Rattle.std.specs.Prelude.{Bool, cond, [], ◌∷◌, ℕ, Some, None}
use Rattle.rules.specs.Sizes.{beyond_range, by_interrupt}
use Rattle.rules.specs.Table.{Table}
use Rattle.rules.specs.Sound.{is_sound}
use Rattle.rules.specs.Kinds.{reading}
use Rattle.rules.specs.Step.{Outcome, step, unsound}
use Rattle.rules.specs.declared.Reading.{Reading}

-- "(port only) a call kind that the tape's list lacks": 1; with the interrupt bit 5, which comes first; 15 comes before both.
unfoldable pub unknown : Bool → Table → Outcome
unknown interrupt t = cond (is_sound t) (record { answer = cond interrupt by_interrupt beyond_range; table = t; runs = t.running; further = 0 }) (unsound t)

unfoldable pub says : Reading → Table → Outcome
says r t = elim (r.call) as (λ _. Outcome) [ Some c ↦ step c r.interrupt t | None ↦ unknown r.interrupt t ]

-- "The port, written in C, calls with a kind, three numbers and the table's byte image"; "the port may take more numbers": six.
unfoldable pub port_step : ℕ → (a b c d e f : ℕ) → Table → Outcome
port_step kind a b c d e f t = says (reading kind (a ∷ b ∷ c ∷ d ∷ e ∷ f ∷ [])) t
