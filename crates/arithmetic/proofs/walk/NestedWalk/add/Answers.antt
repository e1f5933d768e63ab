use Rattle.arithmetic.proofs.Boxes.{box_place, box_turn, box_end}
use Rattle.arithmetic.proofs.Walks.{folded_start, folded_next}
use Rattle.std.proofs.Common.{refl, arith}
use Rattle.arithmetic.proofs.walk.NestedWalk.add.Goals as goal

pub loop-k-init : goal.loop-k-init
loop-k-init g c = folded_start

pub overflow_mul-k : goal.overflow_mul-k
overflow_mul-k g c = omega (arith, c.well_formed, (box_place c.requires c.loop-k.k c.loop-k-test.true).0)

pub overflow_add-a : goal.overflow_add-a
overflow_add-a g c = omega (arith, c.well_formed, (box_place c.requires c.loop-k.k c.loop-k-test.true).0)

pub overflow_mul-count : goal.overflow_mul-count
overflow_mul-count g c = omega (arith, c.well_formed, (box_place c.requires c.loop-k.k c.loop-k-test.true).1)

pub overflow_add-b : goal.overflow_add-b
overflow_add-b g c = omega (arith, c.well_formed, (box_place c.requires c.loop-k.k c.loop-k-test.true).1)

pub add-r-requires : goal.add-r-requires
add-r-requires g c = box_turn c.requires c.loop-k.k c.loop-k-test.true c.loop-k.invariant

pub loop-k-preserved : goal.loop-k-preserved
loop-k-preserved g c = folded_next c.loop-k.invariant c.loop-k-test.true refl c.add-r.ensures

pub returns : goal.returns
returns g c = box_end c.requires c.loop-k.invariant (omega (arith, c.loop-k-test.false))
