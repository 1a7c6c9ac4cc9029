-- A walk along `next`, over any state.
use Rattle.std.specs.Prelude.{cond, ℕ, zero, suc, ltb}

-- The walk from s: each task on the way, for at most k tasks, gets by `put` the working priority that `new` gives it.
unfoldable pub walk_on : {S : Type 0} (n : ℕ) (next new : S → ℕ → ℕ) (put : S → ℕ → ℕ → S) → ℕ → ℕ → S → S
walk_on n next new put zero s t = t
walk_on n next new put (suc k) s t =
    let on = walk_on n next new put k (next t s) (put t s (new t s)) in
    cond (ltb s n) on t
