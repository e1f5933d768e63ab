use Rattle.arithmetic.specs.Sources.{lent, stored}
use Rattle.sequences.proofs.RowLoops.{Losing}
use Rattle.sequences.proofs.rows.lose_product.Given as goal

abbrev pub invariant-loop-k : goal.invariant-loop-k
invariant-loop-k l = Losing l.i l.d l.p (lent l.e) (stored l.e) l.e.at l.a l.m l.b l.n l.initial.w l.c l.top l.k l.w
