-- The loop of `inverse` keeps that its locals are two rows (`Rows`); its measure is the second remainder.
use Rattle.residue.proofs.Laws.{Rows}
use Rattle.residue.proofs.rows.inverse.Given as goal

abbrev pub invariant-loop-r1 : goal.invariant-loop-r1
invariant-loop-r1 l = Rows l.p l.c l.plus l.r0 l.r1 l.m0 l.m1

abbrev pub decreases-loop-r1 : goal.decreases-loop-r1
decreases-loop-r1 l = l.r1
