-- A free number's fields, a part at a time, as the code looks at them.
use Rattle.std.specs.Prelude.{◌≡◌, refl, Bool, true, false, not, ◌&&◌, ◌||◌, ℕ, ◌<◌, eqb, ltb}
use Rattle.std.proofs.Common.{ap, ◌∙◌, arith}
use Rattle.std.proofs.lemmas.Bool.Decides.{nat_tests}
use Rattle.rules.specs.Sizes.{ticks_round, flag_sets, waits_flags}
use Rattle.rules.specs.Sound.{implies, marks_in, asks_in, is_no_task}
use Rattle.rules.specs.declared.Task.{Task}

-- ---- tests of two parts

-- Where a holds, b does: as the code says it.
pub unless_is : (a b : Bool) → not a || b ≡ implies a b
unless_is true b = refl
unless_is false b = refl

pub or_is : (a b : Bool) → a || b ≡ implies (not a) b
or_is true b = refl
or_is false b = refl

-- A free number's other fields.
pub free_is : (a b : Bool) → not a || b ≡ implies a (a && b)
free_is true b = refl
free_is false b = refl

-- A mark has a due tick, and who waits for flags a mask.
pub due_is : (m d : ℕ) → d < ticks_round → not (eqb m 0) || eqb d 0 ≡ ltb d (marks_in m)
unfolding marks_in
due_is m d h = grind (arith, nat_tests)

pub mask_is : (s m : ℕ) → m < flag_sets → eqb s waits_flags || eqb m 0 ≡ ltb m (asks_in s flag_sets)
unfolding asks_in
mask_is s m h = grind (arith, nat_tests)

-- ---- a task's

unfoldable pub is_plain_zero : Task → Bool
is_plain_zero k = eqb k.base 0 && (eqb k.work 0 && (eqb k.suspend 0 && (eqb k.quantum 0 && (eqb k.left 0 && eqb k.state 0))))

unfoldable pub is_wait_zero : Task → Bool
is_wait_zero k =
    eqb k.object 0
    && (eqb k.marked 0
    && (eqb k.due 0
    && (eqb k.outcome 0
    && (eqb k.mask 0
    && (eqb k.test 0
    && (eqb k.consume 0
    && eqb k.message 0))))))

joined : (a b c d e f w : Bool) → (a && (b && (c && (d && (e && f))))) && w ≡ a && (b && (c && (d && (e && (f && w)))))
joined false b c d e f w = refl
joined true false c d e f w = refl
joined true true false d e f w = refl
joined true true true false e f w = refl
joined true true true true false f w = refl
joined true true true true true f w = refl

pub free-task : (k : Task) → not (eqb k.used 0) || (is_plain_zero k && is_wait_zero k) ≡ implies (eqb k.used 0) (is_no_task k)
unfolding is_plain_zero is_wait_zero is_no_task
free-task k =
    free_is (eqb k.used 0) _
    ∙ ap (λ (b : Bool). implies (eqb k.used 0) (eqb k.used 0 && b))
    (joined (eqb k.base 0) (eqb k.work 0) (eqb k.suspend 0) (eqb k.quantum 0) (eqb k.left 0) (eqb k.state 0) _)
