use Rattle.rules.specs.Mutex.{released}
use Rattle.table.specs.Image.{view}
use Rattle.mutex.proofs.Laws.{handed_none}
use Rattle.mutex.proofs.release.Goals as goal

pub returns-in-Some : goal.returns-in-Some
unfolding released
returns-in-Some c = cc (c.in-Some.ensures.front)

pub returns-in_default : goal.returns-in_default
unfolding released
returns-in_default c = cc (c.in_default.ensures.front, handed_none c.args.i (view c.walk_from.new.s))
