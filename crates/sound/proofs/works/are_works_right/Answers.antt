use mathlib.Core.Path.{refl}
use Rattle.chain.specs.Given.{is_blank, none_given}
use Rattle.sound.proofs.works.are_works_right.Goals as goal

pub carry_all-requires : goal.carry_all-requires
unfolding is_blank
carry_all-requires c =
    none_given _ refl refl
