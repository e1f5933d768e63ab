-- `polynomials::slots::multiply` meets its contract. The loop has made the first j coefficients. Assumes nothing.
use Rattle.polynomials.proofs.Multiplies.{Multiplying}
use Rattle.polynomials.proofs.slots.multiply.Given as goal

abbrev pub invariant-loop-j : goal.invariant-loop-j
invariant-loop-j l = Multiplying l.i l.d l.p l.t l.a l.b l.initial.c l.initial.w l.j l.c l.w
