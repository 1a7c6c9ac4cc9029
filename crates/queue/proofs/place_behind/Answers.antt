use mathlib.Core.Path.{◌∙◌, sym}
use Prim.Native.Nat.{◌+◌}
use native.Mathlib.Omega.{arith}
use Rattle.queue.specs.Slots.{from}
use Rattle.queue.proofs.Scan.{scan_more, scan_found, scan_ended}
use Rattle.queue.proofs.place_behind.Goals as goal

pub returns-then-is_later : goal.returns-then-is_later
returns-then-is_later c =
    let a = c.args in
    scan_found (from a.keys.now (a.key + 1)) a.ids.now _ (omega arith) c.loop-i.invariant (sym c.is_later.ensures ∙ c.if-is_later.true)

pub loop-i-preserved : goal.loop-i-preserved
loop-i-preserved c =
    let a = c.args in
    scan_more (from a.keys.now (a.key + 1)) a.ids.now _ (omega arith) c.loop-i.invariant (sym c.is_later.ensures ∙ c.if-is_later.false)

pub returns : goal.returns
returns c =
    let a = c.args in
    omega (arith, scan_ended (from a.keys.now (a.key + 1)) a.ids.now _ (omega arith) c.loop-i.invariant)
