use Rattle.std.proofs.Common.{rules}
use Rattle.player.specs.Part.{written-within}
use Rattle.play.proofs.Player.play_held.Goals as goal

pub shared_ref_as_front-say : goal.shared_ref_as_front-say
shared_ref_as_front-say c =
    let k = written-within c.play_part-part.ensures in
    search (rules, k)
