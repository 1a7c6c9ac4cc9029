use Rattle.rules.specs.Kinds.{told_in}
use Rattle.rules.specs.KindLaws.{end, with}
use borrow.Author.Rules.{rules}
use Rattle.kinds.specs.Row.{packed, row_of, row_none}
use Rattle.kinds.proofs.row_of.Goals as goal

pub returns-in-1 : goal.returns-in-1
unfolding told_in packed row_of
returns-in-1 c = rw c.in-1.is

pub returns-in-2 : goal.returns-in-2
unfolding told_in packed row_of
returns-in-2 c = rw c.in-2.is

pub returns-in-3 : goal.returns-in-3
unfolding told_in packed row_of
returns-in-3 c = rw c.in-3.is

pub returns-in-4 : goal.returns-in-4
unfolding told_in packed row_of
returns-in-4 c = rw c.in-4.is

pub returns-in-5 : goal.returns-in-5
unfolding told_in packed row_of
returns-in-5 c = rw c.in-5.is

pub returns-in-6 : goal.returns-in-6
unfolding told_in packed row_of
returns-in-6 c = rw c.in-6.is

pub returns-in-7 : goal.returns-in-7
unfolding told_in packed row_of
returns-in-7 c = rw c.in-7.is

pub returns-in-8 : goal.returns-in-8
unfolding told_in packed row_of
returns-in-8 c = rw c.in-8.is

pub returns-in-9 : goal.returns-in-9
unfolding told_in packed row_of
returns-in-9 c = rw c.in-9.is

pub returns-in-10 : goal.returns-in-10
unfolding told_in packed row_of
returns-in-10 c = rw c.in-10.is

pub returns-in-11 : goal.returns-in-11
unfolding told_in packed row_of
returns-in-11 c = rw c.in-11.is

pub returns-in-13 : goal.returns-in-13
unfolding told_in packed row_of
returns-in-13 c = rw c.in-13.is

pub returns-in-16 : goal.returns-in-16
unfolding told_in packed row_of
returns-in-16 c = rw c.in-16.is

pub returns-in-17 : goal.returns-in-17
unfolding told_in packed row_of
returns-in-17 c = rw c.in-17.is

pub returns-in-18 : goal.returns-in-18
unfolding told_in packed row_of
returns-in-18 c = rw c.in-18.is

pub returns-in-19 : goal.returns-in-19
unfolding told_in packed row_of
returns-in-19 c = rw c.in-19.is

pub returns-in-20 : goal.returns-in-20
unfolding told_in packed row_of
returns-in-20 c = rw c.in-20.is

pub returns-in-32 : goal.returns-in-32
unfolding told_in packed row_of
returns-in-32 c = rw c.in-32.is

pub returns-in-33 : goal.returns-in-33
unfolding told_in packed row_of
returns-in-33 c = rw c.in-33.is

pub returns-in-34 : goal.returns-in-34
unfolding told_in packed row_of
returns-in-34 c = rw c.in-34.is

pub returns-in-35 : goal.returns-in-35
unfolding told_in packed row_of
returns-in-35 c = rw c.in-35.is

pub returns-in-36 : goal.returns-in-36
unfolding told_in packed row_of
returns-in-36 c = rw c.in-36.is

pub returns-in-48 : goal.returns-in-48
unfolding told_in packed row_of
returns-in-48 c = rw c.in-48.is

pub returns-in-49 : goal.returns-in-49
unfolding told_in packed row_of
returns-in-49 c = rw c.in-49.is

pub returns-in-50 : goal.returns-in-50
unfolding told_in packed row_of
returns-in-50 c = rw c.in-50.is

pub returns-in-51 : goal.returns-in-51
unfolding told_in packed row_of
returns-in-51 c = rw c.in-51.is

pub returns-in-52 : goal.returns-in-52
unfolding told_in packed row_of
returns-in-52 c = rw c.in-52.is

pub returns-in-64 : goal.returns-in-64
unfolding told_in packed row_of
returns-in-64 c = rw c.in-64.is

pub returns-in-65 : goal.returns-in-65
unfolding told_in packed row_of
returns-in-65 c = rw c.in-65.is

pub returns-in-66 : goal.returns-in-66
unfolding told_in packed row_of
returns-in-66 c = rw c.in-66.is

pub returns-in-67 : goal.returns-in-67
unfolding told_in packed row_of
returns-in-67 c = rw c.in-67.is

pub returns-in-68 : goal.returns-in-68
unfolding told_in packed row_of
returns-in-68 c = rw c.in-68.is

pub returns-in-69 : goal.returns-in-69
unfolding told_in packed row_of
returns-in-69 c = rw c.in-69.is

pub returns-in_default : goal.returns-in_default
unfolding told_in packed row_of
returns-in_default c = row_none c.args.k c.args.numbers (with (search rules) (with (search rules) (with (search rules) (with (search rules) (with (search rules) (with (search rules) (with (search rules) (with (search rules) (with (search rules) (with (search rules) (with (search rules) (with (search rules) (with (search rules) (with (search rules) (with (search rules) (with (search rules) (with (search rules) (with (search rules) (with (search rules) (with (search rules) (with (search rules) (with (search rules) (with (search rules) (with (search rules) (with (search rules) (with (search rules) (with (search rules) (with (search rules) (with (search rules) (with (search rules) (with (search rules) (with (search rules) (with (search rules) end)))))))))))))))))))))))))))))))))
