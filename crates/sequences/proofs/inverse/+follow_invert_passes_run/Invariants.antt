-- What falls round the cycle, and what a call asks for: an inverse at level i runs the sequence; a run at level i takes an inverse and the remainders one level
-- down; what follows a remainder takes an inverse at its own level.
use Rattle.arithmetic.specs.Sources.{lent, stored}
use Prim.Native.Nat.{◌+◌, ◌-◌, ◌*◌}
use Rattle.sequences.proofs.PassLaws.{Passing}
use Rattle.sequences.proofs.inverse.+follow_invert_passes_run.Given as goal

-- ---- the measures
abbrev pub decreases-follow : goal.decreases-follow
decreases-follow l = 4 * l.i + 1

abbrev pub decreases-invert : goal.decreases-invert
decreases-invert l = 4 * l.i

abbrev pub decreases-passes : goal.decreases-passes
decreases-passes l = 4 * l.h + 2

abbrev pub decreases-run : goal.decreases-run
decreases-run l = 4 * l.i - 1

abbrev pub invariant-passes-loop-k : goal.invariant-passes-loop-k
invariant-passes-loop-k l =
    Passing l.h l.g l.s l.d l.z l.p (lent l.e) (stored l.e) l.e.at l.initial.f l.initial.k l.initial.w l.next l.f l.k l.left l.w

abbrev pub decreases-passes-loop-k : goal.decreases-passes-loop-k
decreases-passes-loop-k l = l.k.count
