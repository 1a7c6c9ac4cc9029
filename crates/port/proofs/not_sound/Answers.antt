use borrow.Author.Rules.{rules}
use Rattle.port.proofs.not_sound.Goals as goal

pub returns : goal.returns
returns c =
    search rules
