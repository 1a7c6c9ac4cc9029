use Rattle.std.proofs.Common.{rules, ◌≡◌, ◌∙◌, ap}
use Rattle.kinds.specs.Row.{widths_in, row-widths}
use Rattle.kinds.proofs.widths_of.Goals as goal

pub returns : goal.returns
returns c = let e : c.map_or.result ≡ widths_in c.row_of.result = search rules in e ∙ ap widths_in c.row_of.ensures ∙ row-widths _ _
