use mathlib.Core.Path.{sym, ◌∙◌}
use native.Mathlib.Omega.{arith}
use Rattle.rules.specs.Sizes.{channel_count}
use Rattle.table.specs.Image.{view}
use Rattle.sound.specs.Channels.{is_row_sound}
use Rattle.sound.specs.Tests.{each_none, each_more, each_stop}
use Rattle.sound.proofs.channels.are_rows_right.Goals as goal

pub loop-c-init : goal.loop-c-init
loop-c-init c =
    sym (each_none _)

pub returns-then-not-is_row_right : goal.returns-then-not-is_row_right
returns-then-not-is_row_right c =
    sym (each_stop (is_row_sound (view c.args.s.now)) channel_count c.loop-c.c (omega arith) (sym c.is_row_right.ensures ∙ c.if-not-is_row_right.true))

pub loop-c-preserved : goal.loop-c-preserved
loop-c-preserved c =
    each_more (is_row_sound (view c.args.s.now)) c.loop-c.c c.loop-c.invariant (sym c.is_row_right.ensures ∙ c.if-not-is_row_right.false)
