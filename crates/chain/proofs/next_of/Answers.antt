use mathlib.Core.Path.{sym, ap, ◌∙◌}
use native.Mathlib.Omega.{arith}
use lib.ListN.{get_or-eq_default}
use Rattle.rules.specs.Table.{task_of, holder_of, no_task}
use Rattle.laws.specs.chains.Graph.{next_is, waits_for, waits_one, waits_none}
use Rattle.table.specs.Image.{view}
use Rattle.table.specs.Shape.{view-shaped}
use Rattle.chain.proofs.next_of.Goals as goal

pub returns-then-j-ge-TASKS : goal.returns-then-j-ge-TASKS
returns-then-j-ge-TASKS c =
    let t = view c.args.s.now in
    let free = get_or-eq_default t.tasks no_task {n = c.args.j} (omega (arith, (view-shaped c.args.s.now (omega arith)).tasks)) in
    sym (next_is t c.args.j ∙ ap (waits_for (holder_of t)) free ∙ waits_none (holder_of t) no_task (λ e. omega arith))

pub returns-then-get_state-eq-WAITS_MUTEX : goal.returns-then-get_state-eq-WAITS_MUTEX
returns-then-get_state-eq-WAITS_MUTEX c =
    let a = c.args in
    let t = view a.s.now in
    let waits = waits_one (holder_of t) (task_of t a.j) (sym c.get_state.ensures ∙ c.if-get_state-eq-WAITS_MUTEX.true) in
    c.holder_of.ensures ∙ ap (holder_of t) c.get_object-m.ensures ∙ sym (next_is t a.j ∙ waits)

pub returns : goal.returns
returns c =
    let a = c.args in
    let t = view a.s.now in
    sym (next_is t a.j ∙ waits_none (holder_of t) (task_of t a.j) (λ z. c.if-get_state-eq-WAITS_MUTEX.false (c.get_state.ensures ∙ z)))
