use Rattle.std.proofs.Common.{sym, ◌∙◌, arith}
use Rattle.table.specs.Image.{view}
use Rattle.why.specs.TestLaws.{kept_range, kept_task, kept_object, kept_group, kept_channel, kept_message, kept_wait, kept_holder, kept_queue, kept_work, kept_single, kept_level}
use Rattle.why.proofs.is_kept.Goals as goal

pub returns-in-0-to-15 : goal.returns-in-0-to-15
returns-in-0-to-15 c =
    let a = c.args in c.is_in_range.ensures ∙ sym (kept_range a.rule a.i (view a.s.now) (omega arith))

pub returns-in-16-to-31 : goal.returns-in-16-to-31
returns-in-16-to-31 c =
    let a = c.args in c.is_right.ensures ∙ sym (kept_task a.rule a.i (view a.s.now) (omega arith) (omega arith))

pub returns-in-32-to-63 : goal.returns-in-32-to-63
returns-in-32-to-63 c =
    let a = c.args in c.is_right-in-32-to-63.ensures ∙ sym (kept_object a.rule a.i (view a.s.now) (omega arith) (omega arith))

pub returns-in-64-to-79 : goal.returns-in-64-to-79
returns-in-64-to-79 c =
    let a = c.args in c.is_group_right.ensures ∙ sym (kept_group a.rule a.i (view a.s.now) (omega arith) (omega arith))

pub returns-in-80-to-84 : goal.returns-in-80-to-84
returns-in-80-to-84 c =
    let a = c.args in c.is_right-in-80-to-84.ensures ∙ sym (kept_channel a.rule a.i (view a.s.now) (omega arith) (omega arith))

pub returns-in-85-to-127 : goal.returns-in-85-to-127
returns-in-85-to-127 c =
    let a = c.args in c.is_message_right.ensures ∙ sym (kept_message a.rule a.i (view a.s.now) (omega arith) (omega arith))

pub returns-in-128-to-130 : goal.returns-in-128-to-130
returns-in-128-to-130 c =
    let a = c.args in c.is_right-in-128-to-130.ensures ∙ sym (kept_wait a.rule a.i (view a.s.now) (omega arith) (omega arith))

pub returns-in-131-to-143 : goal.returns-in-131-to-143
returns-in-131-to-143 c =
    let a = c.args in c.is_holder_right.ensures ∙ sym (kept_holder a.rule a.i (view a.s.now) (omega arith) (omega arith))

pub returns-in-144-to-159 : goal.returns-in-144-to-159
returns-in-144-to-159 c =
    let a = c.args in c.is_right-in-144-to-159.ensures ∙ sym (kept_queue a.rule a.i (view a.s.now) (omega arith) (omega arith))

pub returns-in-160-to-175 : goal.returns-in-160-to-175
returns-in-160-to-175 c =
    let a = c.args in c.is_right-in-160-to-175.ensures ∙ sym (kept_work a.rule a.i (view a.s.now) (omega arith) (omega arith))

pub returns-in-176-to-183 : goal.returns-in-176-to-183
returns-in-176-to-183 c =
    let a = c.args in c.is_right-in-176-to-183.ensures ∙ sym (kept_single a.rule a.i (view a.s.now) (omega arith) (omega arith))

pub returns-in_default : goal.returns-in_default
returns-in_default c =
    let a = c.args in c.is_right-in_default.ensures ∙ sym (kept_level a.rule a.i (view a.s.now) (omega arith))
