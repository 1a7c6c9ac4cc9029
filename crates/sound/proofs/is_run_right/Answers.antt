use Rattle.table.specs.Image.{view}
use Rattle.sound.specs.Whole.{runs-unlocked, runs-locked}
use Rattle.sound.proofs.is_run_right.Goals as goal

pub returns-then-depth-eq0 : goal.returns-then-depth-eq0
returns-then-depth-eq0 c =
    let t = view c.args.s.now in
    cc (runs-unlocked t (cc))

pub returns : goal.returns
returns c =
    let t = view c.args.s.now in
    cc (runs-locked t (λ e. c.if-depth-eq0.false (cc)))
