use mathlib.Core.Path.{refl}
use borrow.Author.Tests.{le-leb, lt-leb, lt-ltb, le-ltb, eq-eqb, ne_eqb}
use Rattle.rules.specs.Task.{create_answer, create}
use Rattle.service.specs.Serving.{refused, served}
use Rattle.task.proofs.create_task.Goals as goal

pub returns-then-i-ge-TASKS : goal.returns-then-i-ge-TASKS
unfolding create_answer
returns-then-i-ge-TASKS c =
    refused (rw (le-leb _ _ c.if-i-ge-TASKS.true)) refl

pub returns-then-get_used-eq1 : goal.returns-then-get_used-eq1
unfolding create_answer
returns-then-get_used-eq1 c =
    refused (rw (lt-leb _ _ c.if-i-ge-TASKS.false, ← c.get_used.ensures, eq-eqb _ _ c.if-get_used-eq1.true)) refl

pub returns-then-base-gt-LAST_PRIORITY : goal.returns-then-base-gt-LAST_PRIORITY
unfolding create_answer
returns-then-base-gt-LAST_PRIORITY c =
    refused (rw (lt-leb _ _ c.if-i-ge-TASKS.false, ← c.get_used.ensures, ne_eqb _ _ c.if-get_used-eq1.false, lt-ltb _ _ c.if-base-gt-LAST_PRIORITY.true)) refl

pub returns-then-quantum-gt-MOST : goal.returns-then-quantum-gt-MOST
unfolding create_answer
returns-then-quantum-gt-MOST c =
    refused (rw (lt-leb _ _ c.if-i-ge-TASKS.false, ← c.get_used.ensures, ne_eqb _ _ c.if-get_used-eq1.false, le-ltb _ _ c.if-base-gt-LAST_PRIORITY.false, lt-ltb _ _ c.if-quantum-gt-MOST.true)) refl

pub returns : goal.returns
unfolding create_answer create
returns c =
    served (rw (lt-leb _ _ c.if-i-ge-TASKS.false, ← c.get_used.ensures, ne_eqb _ _ c.if-get_used-eq1.false, le-ltb _ _ c.if-base-gt-LAST_PRIORITY.false, le-ltb _ _ c.if-quantum-gt-MOST.false)) refl (cc)
