use mathlib.Core.Path.{ap}
use Prim.Native.Nat.{ℕ, ◌≤◌, ◌<◌}
use native.Mathlib.Omega.{arith}
use lib.Dec.{eqb}
use borrow.Author.Tests.{le-leb, lt-leb}
use Rattle.rules.specs.Table.{channel_of}
use Rattle.table.specs.Image.{view}
use Rattle.why.proofs.channels.is_unused_right.Goals as goal

pub returns-then-j-get_held : goal.returns-then-j-get_held
returns-then-j-get_held c =
    let a = c.args in
    let h : a.j < (channel_of (view a.s.now) a.c).held = omega (arith, c.get_held.ensures, c.if-j-get_held.true) in
    rw (lt-leb _ _ h)

pub returns : goal.returns
returns c =
    let a = c.args in
    let h : (channel_of (view a.s.now) a.c).held ≤ a.j = omega (arith, c.get_held.ensures, c.if-j-get_held.false) in
    rw (le-leb _ _ h) (ap (λ (x : ℕ). eqb x 0) c.get_message_at.ensures)
