-- "Lock, unlock change the depth." Lock is refused with 10 where it would be "the 251st nesting of a .. lock", unlock with 12: "unlock
-- at depth 0".
use Rattle.std.specs.Prelude.{cond, ℕ, ◌+◌, ◌-◌, eqb, leb}
use Rattle.rules.specs.Sizes.{most_nested, done, nested_too_deep, not_locked}
use Rattle.rules.specs.Table.{Table, with_depth}

unfoldable pub lock_answer : Table → ℕ
lock_answer t = cond (leb most_nested t.depth) nested_too_deep done

unfoldable pub lock : Table → Table
lock t = with_depth (t.depth + 1) t

unfoldable pub unlock_answer : Table → ℕ
unlock_answer t = cond (eqb t.depth 0) not_locked done

unfoldable pub unlock : Table → Table
unlock t = with_depth (t.depth - 1) t
