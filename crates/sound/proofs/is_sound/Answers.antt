use mathlib.Core.Path.{◌≡◌, refl, sym, ◌∙◌}
use mathlib.Core.Bool.{true}
use Rattle.rules.proofs.Tested.{queued}
use Rattle.rules.specs.Decides.{both, itself}
use Rattle.table.specs.Image.{view}
use Rattle.sound.specs.Ready.{worded}
use Rattle.sound.specs.Rows.{are_tasks_sound, are_objects_sound, tasks-sound}
use Rattle.sound.specs.Whole.{are_queues_sound, sound-told}
use Rattle.sound.proofs.is_sound.Goals as goal

pub returns-then-not-are_tasks_right : goal.returns-then-not-are_tasks_right
returns-then-not-are_tasks_right c =
    sound-told (view c.args.s.now) (sym c.are_tasks_right.ensures ∙ c.if-not-are_tasks_right.true) refl refl

pub returns-then-not-are_objects_right : goal.returns-then-not-are_objects_right
returns-then-not-are_objects_right c =
    sound-told (view c.args.s.now) (sym c.are_tasks_right.ensures ∙ c.if-not-are_tasks_right.false) (sym c.are_objects_right.ensures ∙ c.if-not-are_objects_right.true) refl

pub are_queues_right-requires : goal.are_queues_right-requires
are_queues_right-requires c =
    tasks-sound (view c.args.s.now) (sym c.are_tasks_right.ensures ∙ c.if-not-are_tasks_right.false)

pub returns-then-not-are_queues_right : goal.returns-then-not-are_queues_right
returns-then-not-are_queues_right c =
    sound-told (view c.args.s.now) (sym c.are_tasks_right.ensures ∙ c.if-not-are_tasks_right.false) (sym c.are_objects_right.ensures ∙ c.if-not-are_objects_right.false) (sym c.are_queues_right.ensures ∙ c.if-not-are_queues_right.true)

pub is_word_right-requires : goal.is_word_right-requires
is_word_right-requires c =
    let t = view c.args.s.now in
    (queued (worded t)).holds ((both itself itself).holds (sym c.are_queues_right.ensures ∙ c.if-not-are_queues_right.false)).0

pub returns : goal.returns
returns c =
    let t = view c.args.s.now in
    let e : are_tasks_sound t ≡ true = sym c.are_tasks_right.ensures ∙ c.if-not-are_tasks_right.false in
    let f : are_objects_sound t ≡ true = sym c.are_objects_right.ensures ∙ c.if-not-are_objects_right.false in
    let g : are_queues_sound t ≡ true = sym c.are_queues_right.ensures ∙ c.if-not-are_queues_right.false in
    cc (sound-told t e f g)
