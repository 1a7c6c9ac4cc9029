use mathlib.Core.Path.{ap, ◌∙◌}
use Prim.Native.Nat.{ℕ}
use lib.Dec.{eqb}
use Rattle.table.specs.Image.{view}
use Rattle.sound.specs.Ready.{along_right}
use Rattle.sound.proofs.ready.is_word_right.Goals as goal

pub returns : goal.returns
returns c =
    ap (λ (x : ℕ). eqb c.levels_along.result x) c.get_ready.ensures ∙ along_right (view c.args.s.now) c.requires c.levels_along.ensures
