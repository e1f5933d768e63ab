use Rattle.products.proofs.AtOnce.{once_summed}
use Rattle.products.proofs.Lowerings.{lowering_start, lowering_writes, lowering_next, lowering_end}
use Rattle.arithmetic.specs.Places.{wide}
use mathlib.Core.Path.{ap}
use native.Mathlib.Omega.{arith}
use Rattle.products.proofs.lowest.lowest_from.Goals as goal

pub loop-h-init : goal.loop-h-init
loop-h-init g c = lowering_start c.requires.ready c.requires.sums.all c.requires.sums.lowest

-- the sum of the place that comes next
pub write_at-requires : goal.write_at-requires
write_at-requires g c =
    let summed = once_summed c.args.m c.requires.sums c.requires.ready.places (omega (arith, c.loop-h-test.true, c.loop-h.auto.h)) in
    lowering_writes c.requires.ready (omega (arith, c.loop-h-test.true)) c.loop-h.invariant c.requires.sums.lowest summed

pub loop-h-preserved : goal.loop-h-preserved
loop-h-preserved g c =
    let summed = once_summed c.args.m c.requires.sums c.requires.ready.places (omega (arith, c.loop-h-test.true, c.loop-h.auto.h)) in
    lowering_next c.requires.ready (omega (arith, c.loop-h-test.true)) c.loop-h.invariant c.requires.sums.lowest summed c.write_at.ensures

pub returns : goal.returns
returns g c = lowering_end c.requires.ready (omega (arith, c.loop-k-test.false)) c.loop-k.invariant

pub write_at-requires-in-loop-k : goal.write_at-requires-in-loop-k
write_at-requires-in-loop-k g c =
    let sums = c.requires.sums in
    let summed = once_summed c.args.m sums c.requires.ready.places (omega (arith, c.loop-k-test.true, c.loop-k.invariant.few, sums.all, ap wide sums.lowest)) in
    lowering_writes c.requires.ready c.loop-k-test.true c.loop-k.invariant sums.lowest summed

pub loop-k-preserved : goal.loop-k-preserved
loop-k-preserved g c =
    let sums = c.requires.sums in
    let summed = once_summed c.args.m sums c.requires.ready.places (omega (arith, c.loop-k-test.true, c.loop-k.invariant.few, sums.all, ap wide sums.lowest)) in
    lowering_next c.requires.ready c.loop-k-test.true c.loop-k.invariant sums.lowest summed c.write_at-in-loop-k.ensures
