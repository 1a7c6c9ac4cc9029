use mathlib.Core.Path.{◌≡◌, ap, ◌∙◌}
use Rattle.rules.specs.Move.{chosen}
use Rattle.rules.specs.Channel.{delivered, post}
use Rattle.table.specs.Image.{view}
use Rattle.channel.proofs.Laws.{post_keeps, post-gives}
use Rattle.channel.proofs.give.Goals.{in-None, in-Some}
use Rattle.channel.proofs.give.Goals as goal

pub returns : goal.returns
returns c =
    let a = c.args in
    let t = view a.s.now in
    let made : view c.match-first_in.s ≡ post a.i a.v a.front t = elim c.match-first_in.branch [
      | in-None w ↦ ap view w.s-is ∙ post_keeps a.i a.v a.front t w.in-None.ensures.front w.keep.ensures
      | in-Some w ↦ ap view w.s-is ∙ post-gives a.i a.v a.front t w.in-Some.w w.in-Some.ensures.front (w.deliver.ensures ∙ ap (delivered w.in-Some.w a.v) w.end_wait.ensures)
    ] in
    c.choose.ensures ∙ ap chosen made
