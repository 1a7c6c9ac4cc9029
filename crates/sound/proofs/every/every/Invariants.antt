use Rattle.std.proofs.Common.{◌≡◌, ℕ, Bool}
use Rattle.rules.specs.Sound.{each}
use Rattle.sound.specs.Tests.{Tells}
use Rattle.sound.proofs.every.every.Given as goal

abbrev pub invariant-loop-i : goal.invariant-loop-i
invariant-loop-i g l = (p : ℕ → Bool) → Tells l.count (goal.F-post g l.test) p → l.all ≡ each l.i p
