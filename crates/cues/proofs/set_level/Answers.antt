use mathlib.Core.Path.{sym}
use lib.Seq.{set_out}
use Rattle.cues.proofs.set_level.Goals as goal

pub returns-else-i-levels : goal.returns-else-i-levels
returns-else-i-levels c =
    sym (set_out c.args.levels.now c.args.cue c.args.level c.if-i-levels.false)
