use native.Mathlib.Omega.{arith}
use Rattle.chain.specs.Carry.{carrying_start, carrying_end, carrying_on, above-set}
use Rattle.chain.proofs.carry.Goals as goal

pub loop-j-init : goal.loop-j-init
loop-j-init c =
    carrying_start (omega arith) c.get_base-base.ensures c.next_of-j.ensures c.requires.1

pub returns-then-v-base : goal.returns-then-v-base
returns-then-v-base c =
    carrying_end c.loop-j.invariant (λ h. omega arith)

pub returns-then-own-base : goal.returns-then-own-base
returns-then-own-base c =
    carrying_end c.loop-j.invariant (λ h. omega (arith, c.get_base-own.ensures))

pub loop-j-smaller : goal.loop-j-smaller
loop-j-smaller c =
    let i = c.loop-j in
    above-set _ i.given i.j (omega (arith, i.invariant.size)) (omega arith)

pub loop-j-preserved : goal.loop-j-preserved
loop-j-preserved c =
    carrying_on c.loop-j.invariant (omega arith) (omega (arith, c.get_base-own.ensures)) c.next_of-j-in-loop-j.ensures
