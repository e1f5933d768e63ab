use Rattle.arithmetic.specs.Sources.{lent, stored}
use Rattle.products.proofs.Units.{UnitFalling}
use Rattle.products.proofs.unit.unit_remainder.Given as goal

abbrev pub invariant-loop-k : goal.invariant-loop-k
invariant-loop-k l =
    UnitFalling l.i l.d l.p (lent l.e) (stored l.e) l.e.at (lent l.y) (stored l.y) l.y.at l.g (lent l.u) (stored l.u) l.u.at l.initial.w l.a l.cap l.top l.k l.w
