use Rattle.table.specs.Messages.{message-put}
use borrow.Author.Rules.{rules}
use Rattle.table.proofs.channels.put_message_at.Goals as goal

pub returns : goal.returns
returns c =
    message-put _ _ _ _ _ (search rules) (search rules) (search rules) (search rules) (cc)
