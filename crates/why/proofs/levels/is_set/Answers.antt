use native.Mathlib.Omega.{arith}
use Rattle.why.specs.Ready.{set_is}
use Rattle.why.proofs.levels.is_set.Goals as goal

pub returns : goal.returns
returns c =
    set_is c.args.l c.args.word (omega arith)
