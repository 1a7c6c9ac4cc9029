use mathlib.Core.Path.{ap, ◌∙◌}
use Rattle.rules.specs.Move.{chosen}
use Rattle.rules.specs.Channel.{flush_answer, flush}
use Rattle.table.specs.Image.{view}
use Rattle.service.specs.Told.{tells}
use Rattle.channel.proofs.Laws.{flush-refused}
use Rattle.channel.proofs.flush.Goals as goal

pub returns-in_err-j : goal.returns-in_err-j
unfolding flush_answer
returns-in_err-j c =
    flush-refused c.args.i (view c.args.s.now) c.in_err-j.field-0.0 c.from_residual.result c.from_residual.ensures.1 (c.in_err-j.ensures.answers _)

pub returns : goal.returns
unfolding flush_answer flush
returns c =
    let same = c.in_ok-j.ensures.within.0 in
    tells (c.in_ok-j.ensures.answers _) (rw same at c.count_in-n.ensures.0) (c.choose.ensures ∙ ap chosen (rw same at c.clear.ensures))
