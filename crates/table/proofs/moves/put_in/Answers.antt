use mathlib.Core.Path.{sym, ap, ◌∙◌}
use mathlib.Core.Bool.{◌&&◌}
use Prim.Native.Nat.{ℕ}
use lib.Dec.{eqb, ltb}
use Rattle.rules.specs.Move.{join}
use native.Mathlib.Omega.{arith}
use Rattle.table.specs.Image.{view}
use Rattle.table.specs.Shape.{view-shaped}
use Rattle.table.specs.Settled.{put_settles, moved-put}
use Rattle.table.proofs.moves.put_in.Goals as goal

pub returns-then-old-k : goal.returns-then-old-k
returns-then-old-k c =
    let a = c.args in
    let size = (view-shaped a.s.now (omega arith)).tasks in
    cc (put_settles a.i a.k (view a.s.now) (omega arith) size (sym c.get_work-old.ensures ∙ c.if-old-k.true))

pub returns : goal.returns
returns c =
    let a = c.args in
    let size = (view-shaped a.s.now (omega arith)).tasks in
    c.enter_queue.ensures
    ∙ ap (λ (x : ℕ). join (eqb c.place_of-q.result c.place_of-new.result && ltb a.k.work x) c.place_of-new.result a.i (view c.store-2.new.s)) c.get_work-old.ensures
    ∙ moved-put a.i a.k (view a.s.now) (omega arith) size _ _ _ _ c.place_of-q.ensures c.leave_queue.ensures c.store-2.ensures c.place_of-new.ensures (λ e. c.if-old-k.false (c.get_work-old.ensures ∙ e))
