-- What a call on a sound table starts from, and a caller that takes what it asked for.
use Rattle.std.specs.Prelude.{◌≡◌, ◌≢◌, true, ◌<◌}
use Rattle.std.proofs.Math.Path.{refl}
use Rattle.std.proofs.Common.{arith}
use Rattle.rules.specs.Sizes.{task_count, given}
use Rattle.rules.specs.Table.{Table, is_able}
use Rattle.rules.specs.Sound.{Sound}
use Rattle.rules.specs.Time.{caller_of}
use Rattle.rules.specs.Object.{taken}
use Rattle.laws.specs.keeps.Becomes.{caller, caller-used}
use Rattle.laws.specs.keeps.Running.{caller-able}
use Rattle.laws.specs.keeps.Records.{outcome_right}
use Rattle.laws.specs.keeps.Moves.{BeforeChoice, sound-before, goes_on_keeps}

-- The caller takes what it asked for.
module _ {t : Table} (h : BeforeChoice t) (l : caller_of t < task_count) (a : is_able (caller t) ≡ true) where
  pub taken_keeps : BeforeChoice (taken t)
  unfolding taken
  taken_keeps =
      goes_on_keeps h l _ (outcome_right (h.settled.tasks _ l) (caller-used t a) given (omega arith)) refl refl (λ d e x. record { used = x.used; state = x.state; suspend = x.suspend })

module _ {t : Table} (s : Sound t) where
  pub midway : BeforeChoice t
  midway = sound-before s

  pub caller-task : caller_of t < task_count
  caller-task = omega (arith, s.runs.range)

  -- Whoever runs is able.
  pub runs-able : t.running ≢ 0 → is_able (caller t) ≡ true
  runs-able = caller-able s.settled.queued s.runs
