use mathlib.Core.Path.{◌≡◌}
use lib.ListN.{drop}
use Rattle.rules.specs.Table.{queue_of, able_queue, works}
use Rattle.table.specs.Image.{view}
use Rattle.sound.specs.Ready.{levels_from}
use Rattle.sound.proofs.ready.levels_along.Given as goal

-- The levels so far, with those of the slots that are left, are all.
abbrev pub invariant-loop-j : goal.invariant-loop-j
invariant-loop-j l = (levels_from (works (view l.s)) l.word (drop l.j (queue_of (view l.s) able_queue)) ≡ levels_from (works (view l.s)) 0 (queue_of (view l.s) able_queue))
