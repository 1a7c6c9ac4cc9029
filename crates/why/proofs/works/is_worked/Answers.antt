use mathlib.Core.Path.{refl}
use Rattle.chain.specs.Given.{is_blank, none_given}
use Rattle.why.proofs.works.is_worked.Goals as goal

pub carry_all-requires : goal.carry_all-requires
unfolding is_blank
carry_all-requires c =
    none_given _ refl refl

pub returns : goal.returns
returns c =
    cc
