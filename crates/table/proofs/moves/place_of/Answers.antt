use Rattle.std.proofs.Common.{rules, ◌≡◌, ℕ, false, true}
use Rattle.std.proofs.lemmas.Bool.{ne_eqb}
use Rattle.rules.specs.Table.{task_of, is_able}
use Rattle.rules.specs.Family.{of_state, place_of}
use Rattle.table.specs.Image.{view}
use Rattle.table.proofs.moves.place_of.Goals as goal

pub returns-then-is_able : goal.returns-then-is_able
unfolding place_of of_state
returns-then-is_able c =
    let a = c.args in
    let h : is_able (task_of (view a.s.now) a.i) ≡ true = cc in
    rw h

pub returns-in-2 : goal.returns-in-2
unfolding place_of of_state
returns-in-2 c =
    let a = c.args in
    let h : is_able (task_of (view a.s.now) a.i) ≡ false = cc in
    rw (h, ← c.get_state.ensures, ← c.get_object-object.ensures, c.in-2.is)

pub returns-in-3 : goal.returns-in-3
unfolding place_of of_state
returns-in-3 c =
    let a = c.args in
    let h : is_able (task_of (view a.s.now) a.i) ≡ false = cc in
    rw (h, ← c.get_state.ensures, ← c.get_object-object.ensures, c.in-3.is)

pub returns-in-4 : goal.returns-in-4
unfolding place_of of_state
returns-in-4 c =
    let a = c.args in
    let h : is_able (task_of (view a.s.now) a.i) ≡ false = cc in
    rw (h, ← c.get_state.ensures, ← c.get_object-object.ensures, c.in-4.is)

pub returns-in-5 : goal.returns-in-5
unfolding place_of of_state
returns-in-5 c =
    let a = c.args in
    let h : is_able (task_of (view a.s.now) a.i) ≡ false = cc in
    rw (h, ← c.get_state.ensures, ← c.get_object-object.ensures, c.in-5.is)

pub returns-in_default : goal.returns-in_default
unfolding place_of of_state
returns-in_default c =
    let a = c.args in
    let h : is_able (task_of (view a.s.now) a.i) ≡ false = cc in
    let s : ℕ = c.get_state.result in
    rw (h, ← c.get_state.ensures, ne_eqb s 2 (search rules), ne_eqb s 3 (search rules), ne_eqb s 4 (search rules), ne_eqb s 5 (search rules))
