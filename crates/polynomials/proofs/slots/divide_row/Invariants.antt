-- `polynomials::slots::divide_row` meets its contract. The loop has divided the row from k on. Assumes nothing.
use Rattle.polynomials.proofs.Divides.{Descending}
use Rattle.polynomials.proofs.slots.divide_row.Given as goal

abbrev pub invariant-loop-k : goal.invariant-loop-k
invariant-loop-k l = Descending l.i l.d l.p l.t l.b l.g l.cap l.initial.a l.initial.q l.initial.w l.k l.a l.q l.w
