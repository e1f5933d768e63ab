use Prim.Native.Nat.{◌+◌, ◌*◌}
use Rattle.arithmetic.proofs.Gains.{Gaining}
use Rattle.arithmetic.proofs.sum.+gain_element_gain_row.Given as goal

abbrev pub decreases-gain_element : goal.decreases-gain_element
decreases-gain_element l = 2 * l.i

abbrev pub decreases-gain_row : goal.decreases-gain_row
decreases-gain_row l = 2 * l.i + 1

abbrev pub invariant-gain_row-loop-k : goal.invariant-gain_row-loop-k
invariant-gain_row-loop-k l = Gaining l.p l.d l.i l.n l.neg l.x l.a l.initial.w l.at l.k l.w
