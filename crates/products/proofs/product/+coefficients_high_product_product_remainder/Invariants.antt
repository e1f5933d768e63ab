-- What falls round the cycle, and what a call asks for: a product at level j goes down to the coefficients and the remainder of level j - 1.
use Rattle.arithmetic.specs.Sources.{lent, stored}
use Prim.Native.Nat.{◌+◌, ◌-◌, ◌*◌}
use Rattle.products.proofs.Fillings.{Filling}
use Rattle.products.proofs.Remainders.{RowFalling}
use Rattle.products.specs.Product.{operands}
use Rattle.products.proofs.product.+coefficients_high_product_product_remainder.Given as goal

-- ---- the measures
abbrev pub decreases-coefficients : goal.decreases-coefficients
decreases-coefficients l = 3 * l.j + 1

abbrev pub decreases-high_product : goal.decreases-high_product
decreases-high_product l = 3 * l.j - 1

abbrev pub decreases-product : goal.decreases-product
decreases-product l = 3 * l.j

abbrev pub decreases-remainder : goal.decreases-remainder
decreases-remainder l = 3 * l.i + 1

abbrev pub invariant-coefficients-loop-k : goal.invariant-coefficients-loop-k
invariant-coefficients-loop-k l =
    Filling l.j l.d l.p l.m (lent l.e) (stored l.e) l.e.at (operands l.o) l.neg l.keep l.initial.w l.top l.k l.w

abbrev pub invariant-remainder-loop-k : goal.invariant-remainder-loop-k
invariant-remainder-loop-k l =
    RowFalling l.i l.d l.p (lent l.e) (stored l.e) l.e.at (lent l.y) (stored l.y) l.y.at l.g l.initial.w l.a l.cap l.top l.k l.w
