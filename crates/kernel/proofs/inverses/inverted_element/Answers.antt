use Rattle.kernel.proofs.Inverting.{run-ready, store-room, Worked, worked}
use Rattle.kernel.proofs.Reaching.{work-room, ended-ready, ended_given}
use native.Mathlib.Omega.{arith}
use Rattle.kernel.proofs.inverses.inverted_element.Goals as goal
use Rattle.kernel.proofs.inverses.inverted_element.Goals.{After-run-ended}

abbrev ran : (c : After-run-ended) → (let x = c.args in Worked x.tower.p x.tower.n x.tower.e x.tower.t.now x.c.now x.r.now x.f.now x.v.now c.requires.2)
ran c =
    worked _ _ _ _ _ _ _ _ c.requires.2 _ c.requires.0 _ c.modulus-p.ensures _ c.inverse_work-needed.ensures.0 _ c.run-ended.result c.run-ended.ensures

pub run-ended-requires : goal.run-ended-requires
run-ended-requires c = (
  c.requires.1,
  run-ready _ _ _ _ _ _ _ _ c.requires.2 _ c.requires.0 _ c.modulus-p.ensures c.args.s.levels c.requires.0.levels _ 0
      (store-room _ _ _ _ _ _ _ _ c.requires.2 _ c.requires.0 _ c.modulus-p.ensures),
)

pub ended_answer-answer-requires : goal.ended_answer-answer-requires
ended_answer-answer-requires c = ended-ready (ran (goal.at.ended_answer-answer-requires c).After-run-ended)

pub clear-requires : goal.clear-requires
clear-requires c = omega (arith, work-room (ran (goal.at.clear-requires c).After-run-ended))

pub returns : goal.returns
returns c = ended_given (ran (goal.at.returns c).After-run-ended) c.ended_answer-answer.result _ _ c.ended_answer-answer.ensures _ c.clear.ensures
