-- From the fresh table every sequence of calls leaves a sound table, and none is answered 15.
use Rattle.std.specs.Prelude.{◌≢◌, Bool, List, [], ◌∷◌}
use Rattle.std.proofs.Common.{ap, sym, ◌∙◌}
use Rattle.rules.specs.Sizes.{not_sound}
use Rattle.rules.specs.Table.{Table, fresh_table}
use Rattle.rules.specs.Sound.{Sound}
use Rattle.rules.specs.Step.{Outcome, step}
use Rattle.rules.specs.declared.Call.{Call}
use Rattle.laws.specs.keeps.Sounds.{step-serve, step-sound, serve_not_15, fresh-sound}
use Rattle.laws.specs.order.Order.{Made, run}

-- Calls from a sound table leave a sound table.
pub always_from : {t : Table} (cs : List Made) → Sound t → Sound (run cs t)
unfolding run
always_from [] s = s
always_from {t = t} (c ∷ cs) s = always_from {t = (step c.call c.interrupt t).table} cs (step-sound s c.call c.bounded c.interrupt)

-- So do calls from the fresh table.
pub always : (cs : List Made) → Sound (run cs fresh_table)
always cs = always_from cs fresh-sound

-- On a sound table no call is answered 15.
pub never_15 : {t : Table} → Sound t → (c : Call) (interrupt : Bool) → (step c interrupt t).answer ≢ not_sound
never_15 {t} s c interrupt e = serve_not_15 c interrupt t (ap (λ (o : Outcome). o.answer) (sym (step-serve s c interrupt)) ∙ e)

-- After any calls from the fresh table, the next is not answered 15.
pub never : (cs : List Made) (c : Call) (interrupt : Bool) → (step c interrupt (run cs fresh_table)).answer ≢ not_sound
never cs c interrupt = never_15 (always cs) c interrupt
