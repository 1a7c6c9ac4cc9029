use Rattle.std.proofs.Common.{◌∙◌}
use Rattle.tape.proofs.Bytes.{of_none, of_one, of_two, of_three, of_four}
use Rattle.tape.proofs.little.Goals as goal

pub returns-in-empty : goal.returns-in-empty
returns-in-empty c = of_none c.args.bytes.now c.in-empty.len_below

pub returns-in-len1 : goal.returns-in-len1
returns-in-len1 c = c.from_le_bytes.ensures ∙ of_one c.args.bytes.now c.in-len1.len_at_least c.in-len1.len_below

pub returns-in-len2 : goal.returns-in-len2
returns-in-len2 c = c.from_le_bytes-in-len2.ensures ∙ of_two c.args.bytes.now c.in-len2.len_at_least c.in-len2.len_below

pub returns-in-len3 : goal.returns-in-len3
returns-in-len3 c = c.from_le_bytes-in-len3.ensures ∙ of_three c.args.bytes.now c.in-len3.len_at_least c.in-len3.len_below

pub returns-in-len4-up : goal.returns-in-len4-up
returns-in-len4-up c = c.from_le_bytes-in-len4-up.ensures ∙ of_four c.args.bytes.now c.in-len4-up.len_at_least c.requires
