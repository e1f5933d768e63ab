use Rattle.kernel.proofs.Finding.{gcd_refused, slots_some, few_counts, Sought, sought}
use Rattle.kernel.proofs.Giving.{work-room, found-ready, found_given}
use Rattle.kernel.proofs.Seeking.{needed-ready}
use Rattle.std.proofs.lemmas.Result.{err_from_is_err_and}
use native.Mathlib.Omega.{arith}
use Rattle.kernel.proofs.gcds.found.Goals as goal
use Rattle.kernel.proofs.gcds.found.Goals.{After-sought-o}

abbrev ran : (c : After-sought-o)
    → (let x = c.args in Sought x.tower.p x.tower.n x.tower.e x.tower.t.now x.a.now x.b.now x.g.now x.f.now x.v.now c.in_ok-s.ensures.0)
ran c =
    sought _ _ _ _ _ _ _ _ _ c.in_ok-s.ensures.0 _ c.in_ok-s.ensures.1 _ c.sought-o.result c.sought-o.ensures _ c.gcd_needed-needed.ensures

pub returns-in_err-s : goal.returns-in_err-s
returns-in_err-s c = let p = err_from_is_err_and c.from_residual.result c.from_residual.ensures.1 in rw (p.1, p.2) (gcd_refused _ _ _ _ _ _ _ _ _ _ c.in_err-s.ensures)

pub gcd_needed-needed-requires : goal.gcd_needed-needed-requires
gcd_needed-needed-requires c =
    let some = slots_some _ _ _ _ _ _ _ _ _ c.in_ok-s.ensures.0 in
    needed-ready c.in_ok-s.s c.in_ok-s.ensures.1.known _ _ (some.0, some.1) (few_counts _ _ _ _ _ _ _ _ _ c.in_ok-s.ensures.0)

pub found_answer-answer-requires : goal.found_answer-answer-requires
found_answer-answer-requires c = found-ready (ran (goal.at.found_answer-answer-requires c).After-sought-o)

pub clear-requires : goal.clear-requires
clear-requires c = omega (arith, work-room (ran (goal.at.clear-requires c).After-sought-o))

pub returns : goal.returns
returns c = found_given (ran (goal.at.returns c).After-sought-o) c.found_answer-answer.result _ _ c.found_answer-answer.ensures _ c.clear.ensures
