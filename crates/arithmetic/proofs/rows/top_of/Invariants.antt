-- `arithmetic::rows::top_of` meets its contract. From k on all are zero. Assumes nothing.
use Rattle.std.proofs.Common.{◌+◌}
use Rattle.arithmetic.proofs.Tops.{ZeroFrom}
use Rattle.arithmetic.proofs.rows.top_of.Given as goal

abbrev pub invariant-loop-k : goal.invariant-loop-k
invariant-loop-k l = ZeroFrom l.i l.n l.s l.w (l.at + 1) l.k
