use Rattle.arithmetic.specs.Sources.{lent, stored}
use Rattle.sequences.proofs.RowLoops.{Scaling}
use Rattle.sequences.proofs.rows.scale_row.Given as goal

abbrev pub invariant-loop-k : goal.invariant-loop-k
invariant-loop-k l = Scaling l.i l.n l.d l.p (lent l.e) (stored l.e) l.e.at l.u l.initial.w l.c l.top l.k l.w
