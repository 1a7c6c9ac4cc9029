use mathlib.Core.Path.{refl, ◌∙◌}
use Rattle.table.specs.Image.{view}
use Rattle.service.specs.Serving.{handed-on, refused, served}
use Rattle.mutex.proofs.Laws.{nobody-posts, posts, not-own, own_mutex}
use Rattle.mutex.proofs.post.Goals as goal

pub returns-then-get_running-eq0 : goal.returns-then-get_running-eq0
returns-then-get_running-eq0 c =
    refused (nobody-posts c.args.i (view c.args.s.now) c.get_running.ensures c.if-get_running-eq0.true) refl

pub returns-in_err-j : goal.returns-in_err-j
returns-in_err-j c =
    handed-on c.in_err-j.field-0.0 c.from_residual.result c.from_residual.ensures.1 (posts c.args.i (view c.args.s.now) c.get_running.ensures c.if-get_running-eq0.false (c.in_err-j.ensures.answers _))

pub returns-then-not-is_own : goal.returns-then-not-is_own
returns-then-not-is_own c =
    let i = c.args.i in
    let t = view c.args.s.now in
    let own = rw c.in_ok-j.ensures.within.0 at c.is_own.ensures in
    refused (posts i t c.get_running.ensures c.if-get_running-eq0.false (not-own i t own c.if-not-is_own.true ∙ c.in_ok-j.ensures.answers _)) refl

pub returns : goal.returns
returns c =
    let i = c.args.i in
    let t = view c.args.s.now in
    let own = rw c.in_ok-j.ensures.within.0 at c.is_own.ensures in
    served (posts i t c.get_running.ensures c.if-get_running-eq0.false (own_mutex i t own c.if-not-is_own.false ∙ c.in_ok-j.ensures.answers _)) refl
    (rw c.in_ok-j.ensures.within.0 at c.give.ensures)
