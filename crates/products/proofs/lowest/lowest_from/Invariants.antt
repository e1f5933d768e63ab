-- The loops have written the coefficients from k on: the first all from g on.
use Rattle.arithmetic.specs.Sources.{lent, stored}
use Rattle.products.proofs.Lowerings.{Lowering}
use Rattle.products.specs.Product.{operands}
use Rattle.products.proofs.lowest.lowest_from.Given as goal

abbrev pub invariant-loop-h : goal.invariant-loop-h
invariant-loop-h g l =
    Lowering l.fn.d l.p l.fn.m (lent l.e) (stored l.e) l.e.at (operands l.o) l.neg l.keep l.initial.w l.c l.top l.h l.w

abbrev pub invariant-loop-k : goal.invariant-loop-k
invariant-loop-k g l =
    Lowering l.fn.d l.p l.fn.m (lent l.e) (stored l.e) l.e.at (operands l.o) l.neg l.keep l.fn.w l.c l.top l.k l.w
