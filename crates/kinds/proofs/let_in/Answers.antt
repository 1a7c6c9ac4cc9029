use borrow.Author.Rules.{rules}
use Rattle.rules.specs.Kinds.{told_in}
use Rattle.kinds.specs.Interrupts.{may_make, barred, let_in, let_in_else}
use Rattle.kinds.proofs.let_in.Goals as goal

pub returns-in-139 : goal.returns-in-139
unfolding told_in may_make barred let_in
returns-in-139 c = rw c.in-139.is

pub returns-in-147 : goal.returns-in-147
unfolding told_in may_make barred let_in
returns-in-147 c = rw c.in-147.is

pub returns-in-179 : goal.returns-in-179
unfolding told_in may_make barred let_in
returns-in-179 c = rw c.in-179.is

pub returns-in-195 : goal.returns-in-195
unfolding told_in may_make barred let_in
returns-in-195 c = rw c.in-195.is

pub returns-in_default : goal.returns-in_default
unfolding told_in may_make barred let_in
returns-in_default c = let_in_else c.args.kind (search rules) (search rules) (search rules) (search rules)
