use Rattle.table.specs.Image.{view}
use Rattle.why.specs.Ready.{able_start, able_next}
use Rattle.why.proofs.levels.has_able.Goals as goal

pub loop-i-init : goal.loop-i-init
loop-i-init c =
    able_start _ _

pub loop-i-preserved : goal.loop-i-preserved
loop-i-preserved c =
    let a = c.args in cc (able_next c.loop-i.i a.l (view a.s.now))
