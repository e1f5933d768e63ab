-- The loop over a way's places meets its contract: it has added the first k turns. Assumes nothing.
use Rattle.arithmetic.proofs.Boxes.{Turns}
use Rattle.arithmetic.proofs.walk.NestedWalk.add.Given as goal

abbrev pub invariant-loop-k : goal.invariant-loop-k
invariant-loop-k g l =
    Turns l.x l.y l.a l.b l.count l.step (g.W.Walk.ways l.inner) l.initial.r.lo l.initial.r.hi l.k l.r.lo l.r.hi
