-- `arithmetic::walk::sum_pairs` meets its contract. Assumes nothing.
use Rattle.std.proofs.Common.{◌+◌, ◌^◌, ◌<◌, arith}
use Rattle.tower.specs.Writing.{size}
use Rattle.arithmetic.proofs.Boxes.{pairs-place, pairs-ready, pairs-sum}
use Rattle.arithmetic.proofs.Walks.{pairs-none}
use Rattle.arithmetic.proofs.walk.sum_pairs.Goals as goal
use Rattle.arithmetic.proofs.walk.sum_pairs.Goals.{After-window_at-g}

pub returns-then-n-eq0 : goal.returns-then-n-eq0
returns-then-n-eq0 c =
    pairs-none c.args.d c.args.m c.args.i _ _ c.args.n (size c.args.d c.args.i) c.args.a c.args.b c.if-n-eq0.true

-- the first words of the windows are inside, so their places do not wrap
starts : (c : After-window_at-g) → let f = c.window_at-h.result.at + c.window_at-t.result.at + c.window_at-l.result.at + c.window_at-g.result.at in
    (c.args.a + f < 2 ^ 63) × (c.args.b + f < 2 ^ 63)
starts c =
    let p = pairs-place c.requires c.size_at.ensures c.window_at-h.ensures c.window_at-t.ensures c.window_at-l.ensures c.window_at-g.ensures
    (omega (arith, c.if-n-eq0.false)) in
    (omega (arith, c.well_formed, p.0), omega (arith, c.well_formed, p.1))

pub overflow_add-f : goal.overflow_add-f
overflow_add-f c = omega (arith, (starts (goal.at.overflow_add-f c).After-window_at-g).0)

pub overflow_add-f-2 : goal.overflow_add-f-2
overflow_add-f-2 c = omega (arith, (starts (goal.at.overflow_add-f-2 c).After-window_at-g).0)

pub overflow_add-f-3 : goal.overflow_add-f-3
overflow_add-f-3 c = omega (arith, (starts (goal.at.overflow_add-f-3 c).After-window_at-g).0)

pub overflow_add-a : goal.overflow_add-a
overflow_add-a c = omega (arith, (starts (goal.at.overflow_add-a c).After-window_at-g).0)

pub overflow_add-b : goal.overflow_add-b
overflow_add-b c = omega (arith, (starts (goal.at.overflow_add-b c).After-window_at-g).1)

pub box_sum-requires : goal.box_sum-requires
box_sum-requires c =
    pairs-ready c.requires c.size_at.ensures c.window_at-h.ensures c.window_at-t.ensures c.window_at-l.ensures c.window_at-g.ensures
    (omega (arith, c.if-n-eq0.false))

pub returns : goal.returns
returns c =
    pairs-sum c.requires c.size_at.ensures c.window_at-h.ensures c.window_at-t.ensures c.window_at-l.ensures c.window_at-g.ensures c.box_sum.ensures
