use Rattle.std.proofs.Common.{◌∙◌, ap}
use Rattle.rules.specs.KindLaws.{widths-narrow}
use Rattle.rules.specs.Tape.{little}
use Rattle.tape.proofs.Numbers.{next_narrow, next_within, so_far_none, so_far_next, so_far_all}
use Rattle.tape.proofs.numbers_in.Goals as goal

pub loop-i-init : goal.loop-i-init
loop-i-init c = so_far_none _ _ c.widths_of-widths.ensures

pub split_at-requires : goal.split_at-requires
split_at-requires c = next_within (widths-narrow c.args.k) c.loop-i.invariant c.requires

pub little-requires : goal.little-requires
little-requires c = rw c.split_at.ensures.front_len (next_narrow (widths-narrow c.args.k) c.loop-i.invariant)

pub loop-i-preserved : goal.loop-i-preserved
loop-i-preserved c =
    rw c.split_at.ensures.back
    (so_far_next (widths-narrow c.args.k) c.loop-i.invariant c.loop-i-test.true (c.little.ensures ∙ ap little c.split_at.ensures.front))

pub returns : goal.returns
returns c = so_far_all (widths-narrow c.args.k) c.loop-i.invariant c.loop-i-test.false
