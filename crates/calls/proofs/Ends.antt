-- A call that is served as the rules say, from what its service promises.
use mathlib.Core.Path.{◌≡◌, refl, sym, subst}
use mathlib.Core.Bool.{Bool, true, false, not, ◌&&◌}
use mathlib.Core.List.{List}
use Prim.Native.Nat.{ℕ, ◌<◌}
use native.Mathlib.Omega.{arith}
use Rattle.rules.specs.Table.{Table}
use Rattle.rules.specs.Step.{for_interrupts, answer_to, answer, effect, told_by}
use Rattle.rules.specs.declared.Call.{Call}
use Rattle.service.specs.Served.{Served}
use Rattle.service.specs.Serving.{refused}
use Rattle.service.specs.Told.{Told, tells-nothing}

-- a call that is known to be d is served as d is,
pub by_call : {c d : Call} (t : Table) {r : ℕ} {l m : List ℕ} → c ≡ d → Told (answer_to d t) (effect d t) (told_by d t) r l m → Told (answer_to c t) (effect c t) (told_by c t) r l m
by_call t {r} {l} {m} e s = subst (λ (x : Call). Told (answer_to x t) (effect x t) (told_by x t) r l m) (sym e) s

-- also where it tells nothing further
pub plain-call : {c d : Call} (t : Table) {r a : ℕ} {l m : List ℕ} → c ≡ d → (r ≡ a) × (r < 256) → told_by d t ≡ 0 → Served (answer_to d t) (effect d t) a l m → Told (answer_to c t) (effect c t) (told_by c t) r l m
plain-call t e h z s = by_call t e (tells-nothing h.1 z (rw h.0 s))

-- the test of who made the call, from what was found of the call
module _ (c : Call) (interrupt may : Bool) (t : Table) (is : may ≡ for_interrupts c) where
  not_allowed : (interrupt && not may) ≡ true → 5 ≡ answer c interrupt t
  unfolding answer
  not_allowed e = let f : (interrupt && not (for_interrupts c)) ≡ true = rw is at e in rw f

  -- it is answered 5, and tells nothing
  pub barred : {l : List ℕ} → (interrupt && not may) ≡ true → Told (answer c interrupt t) (effect c t) (told_by c t) 5 l l
  barred e = let n = not_allowed e in record { served = refused n refl; further = rw (← n) refl; byte = omega arith }

  pub allowed : (interrupt && not may) ≡ false → answer_to c t ≡ answer c interrupt t
  unfolding answer
  allowed e = let f : (interrupt && not (for_interrupts c)) ≡ false = rw is at e in rw f
