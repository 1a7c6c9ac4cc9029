use Rattle.std.proofs.Common.{rules, ◌≡◌}
use Rattle.std.specs.Option.{option_map}
use Rattle.kinds.specs.Row.{Row, row-says}
use Rattle.kinds.proofs.reading_of.Goals as goal

pub returns : goal.returns
returns c =
    let e : c.map.result ≡ option_map (λ (x : Row). x.0) c.row_of.result = search rules in
    rw (e, c.is_interrupt.ensures, c.row_of.ensures, c.plain_kind.ensures) (row-says _ _)
