-- A task's number, or none, as the rules write it in one number.
use Rattle.std.specs.Prelude.{ℕ, Option, Some, None}
use Rattle.rules.specs.Table.{written}

abbrev pub byte_of : Option ℕ → ℕ
byte_of None = 0
byte_of (Some i) = written i
