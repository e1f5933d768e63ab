use Rattle.arithmetic.specs.Sources.{lent, stored}
use Rattle.sequences.proofs.GcdLaws.{Turning}
use Rattle.sequences.proofs.gcd.turns.Given as goal

abbrev pub invariant-loop-g : goal.invariant-loop-g
invariant-loop-g l =
    Turning l.i l.d l.z l.p (lent l.e) (stored l.e) l.e.at l.initial.f.row l.initial.f.unit l.initial.f.count l.initial.g.row l.initial.g.unit l.initial.g.count l.initial.w l.top l.f.row l.f.unit l.f.count l.g.row l.g.unit l.g.count l.left l.w

abbrev pub decreases-loop-g : goal.decreases-loop-g
decreases-loop-g l = l.g.count
