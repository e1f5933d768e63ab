-- `products::lowest::lowest` meets its contract. Two and four coefficients of level 1 are calls; the loop has written the coefficients from k on. Assumes
-- nothing.
use Rattle.arithmetic.specs.Sources.{lent, stored}
use Rattle.products.proofs.Lowerings.{Lowering}
use Rattle.products.specs.Product.{operands}
use Rattle.products.proofs.lowest.lowest.Given as goal

abbrev pub invariant-loop-k : goal.invariant-loop-k
invariant-loop-k l = Lowering l.d l.p l.m (lent l.e) (stored l.e) l.e.at (operands l.o) l.neg l.keep l.initial.w l.c l.top l.k l.w
