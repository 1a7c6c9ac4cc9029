use mathlib.Core.Path.{refl}
use Rattle.port.proofs.Laws.{row_by, answer_by, gives_let_in, gives_lacking}
use borrow.Author.Rules.{rules}
use Rattle.port.proofs.serve_kind.Goals as goal

pub returns-in-Some : goal.returns-in-Some
returns-in-Some c bytes =
    let a = c.args in
    gives_let_in a.kind _ a.image.now c.serve_task.new.s (search rules) bytes (row_by a.kind _ c.let_in.ensures c.row_of.ensures c.in-Some.is) c.serve_task.ensures refl

pub returns-in-None : goal.returns-in-None
returns-in-None c bytes =
    let a = c.args in
    gives_lacking a.kind _ a.image.now (row_by a.kind _ c.let_in.ensures c.row_of.ensures c.in-None.is) (answer_by c.is_interrupt.ensures c.not_let_in.ensures) refl
