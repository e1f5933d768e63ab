use native.Mathlib.Omega.{arith}
use Rattle.residue.proofs.Laws.{next, finish_factor, finish-minus, finish_plus}
use Rattle.residue.proofs.rows.inverse.Goals as goal

pub loop-r1-preserved : goal.loop-r1-preserved
loop-r1-preserved c =
    let l = c.loop-r1 in
    next c.args.p c.args.c l.plus _ _ _ _ _ c.loop-r1-test.true c.quotient-q.ensures l.invariant

pub returns-then-r0-gt1 : goal.returns-then-r0-gt1
returns-then-r0-gt1 c =
    finish_factor _ _ _ _ _ _ _ (omega (arith, c.loop-r1-test.false)) c.loop-r1.invariant (omega (arith, c.if-r0-gt1.true))

pub returns-then-plus : goal.returns-then-plus
returns-then-plus c =
    finish-minus _ _ _ _ _ _ _ (omega (arith, c.loop-r1-test.false)) c.loop-r1.invariant c.requires.0 (omega (arith, c.if-r0-gt1.false)) c.if-plus.true

pub returns-else-plus : goal.returns-else-plus
returns-else-plus c =
    finish_plus _ _ _ _ _ _ _ (omega (arith, c.loop-r1-test.false)) c.loop-r1.invariant c.requires.0 (omega (arith, c.if-r0-gt1.false)) c.if-plus.false
