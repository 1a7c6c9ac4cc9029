use Rattle.std.proofs.Common.{◌≡◌, ℕ, Option, List, sym, ap, ◌∙◌, arith}
use Rattle.std.specs.Option.{unwrap_or}
use Rattle.table.specs.Image.{view}
use Rattle.port.specs.Field.{Field, no_field, task_fields, object_fields, group_fields, channel_fields, queue_fields, message_fields, single_fields, shown_in}
use Rattle.port.specs.FieldLaws.{read-wrong, read-task, read-object, read_group, read-channel, read-slot, read-message, read-single}
use Rattle.port.proofs.read.read.Goals as goal

-- The bytes that the slice has and those of the image are one list.
along : (fields : List Field) (f i : ℕ) {s l : List ℕ} → s ≡ l → shown_in fields f i (view s) ≡ shown_in fields f i (view l)
along fields f i e = ap (λ (z : List ℕ). shown_in fields f i (view z)) e

pub returns-in_err-s : goal.returns-in_err-s
returns-in_err-s c =
    let a = c.args in
    ap (λ (o : Option ℕ). unwrap_or o no_field) c.from_residual.ensures ∙ sym (read-wrong a.field a.number a.image.now c.in_err-s.ensures.cases)

pub returns-in-0-to-15 : goal.returns-in-0-to-15
returns-in-0-to-15 c =
    let a = c.args in
    let whole = c.in_ok-s.ensures.cases in
    c.task_field.ensures ∙ along task_fields a.field a.number whole.same ∙ sym (read-task a.field a.number a.image.now whole.long (omega arith))

pub returns-in-16-to-47 : goal.returns-in-16-to-47
returns-in-16-to-47 c =
    let a = c.args in
    let whole = c.in_ok-s.ensures.cases in
    c.object_field.ensures ∙ along object_fields a.field a.number whole.same ∙ sym (read-object a.field a.number a.image.now whole.long (omega arith) (omega arith))

pub returns-in-48-to-63 : goal.returns-in-48-to-63
returns-in-48-to-63 c =
    let a = c.args in
    let whole = c.in_ok-s.ensures.cases in
    c.group_field.ensures ∙ along group_fields a.field a.number whole.same ∙ sym (read_group a.field a.number a.image.now whole.long (omega arith) (omega arith))

pub returns-in-64-to-79 : goal.returns-in-64-to-79
returns-in-64-to-79 c =
    let a = c.args in
    let whole = c.in_ok-s.ensures.cases in
    c.channel_field.ensures ∙ along channel_fields a.field a.number whole.same ∙ sym (read-channel a.field a.number a.image.now whole.long (omega arith) (omega arith))

pub returns-in-80-to-224 : goal.returns-in-80-to-224
returns-in-80-to-224 c =
    let a = c.args in
    let whole = c.in_ok-s.ensures.cases in
    c.slot_field.ensures ∙ along queue_fields a.field a.number whole.same ∙ sym (read-slot a.field a.number a.image.now whole.long (omega arith) (omega arith))

pub returns-in-225-to-239 : goal.returns-in-225-to-239
returns-in-225-to-239 c =
    let a = c.args in
    let whole = c.in_ok-s.ensures.cases in
    c.message_field.ensures ∙ along message_fields a.field a.number whole.same ∙ sym (read-message a.field a.number a.image.now whole.long (omega arith) (omega arith))

pub returns-in_default : goal.returns-in_default
returns-in_default c =
    let a = c.args in
    let whole = c.in_ok-s.ensures.cases in
    c.single_field.ensures ∙ along single_fields a.field a.number whole.same ∙ sym (read-single a.field a.number a.image.now whole.long (omega arith))
