-- "The table gets a default quantum, 1 to 65,535, 100 when fresh; a new call sets it, and a task created with 0 takes the default of that
-- moment."
use Rattle.std.specs.Prelude.{cond, ◌||◌, ℕ, eqb, ltb}
use Rattle.rules.specs.Sizes.{most_quantum, done, bad_value}
use Rattle.rules.specs.Table.{Table, with_default_quantum}

-- The quantum of a task that is created with n.
unfoldable pub quantum_of : ℕ → Table → ℕ
quantum_of n t = cond (eqb n 0) t.default_quantum n

-- "setting the default to 0 gets 4", and so does a number above 65,535, which the port alone can say.
unfoldable pub default_answer : ℕ → ℕ
default_answer n = cond (eqb n 0 || ltb most_quantum n) bad_value done

unfoldable pub set_default : ℕ → Table → Table
set_default n t = with_default_quantum n t
