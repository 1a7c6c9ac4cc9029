use mathlib.Core.Path.{refl, sym}
use Rattle.rules.specs.Move.{next, fresh_in, put_work}
use Rattle.table.specs.Image.{view}
use Rattle.laws.specs.chains.Walk.{walk_on_past}
use Rattle.chain.specs.Given.{is_blank, none_given}
use Rattle.chain.proofs.walk.walk_from.Goals as goal

pub returns-then-i-ge-TASKS : goal.returns-then-i-ge-TASKS
returns-then-i-ge-TASKS c =
    let a = c.args in
    sym (walk_on_past 32 next fresh_in put_work 32 a.i (view a.s.now) c.if-i-ge-TASKS.true)

pub carry_all-requires : goal.carry_all-requires
unfolding is_blank
carry_all-requires c =
    none_given _ refl refl
