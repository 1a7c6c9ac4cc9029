use Rattle.std.proofs.Common.{sym, length-take-le}
use Rattle.player.specs.Part.{written-within}
use Rattle.reels.proofs.play_from.Goals as goal

pub slice_bounds-lines-end : goal.slice_bounds-lines-end
slice_bounds-lines-end c = written-within c.play_part-part.ensures

pub slice_bounds-say-end : goal.slice_bounds-say-end
slice_bounds-say-end c = sym (length-take-le _ _ (written-within c.play_part-part.ensures))
