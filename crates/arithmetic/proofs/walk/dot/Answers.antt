-- `arithmetic::walk::dot` meets its contract: a box of one way. Assumes nothing.
use Rattle.arithmetic.proofs.Boxes.{dot-none, dot-ready, dot_end}
use Rattle.std.proofs.Common.{arith}
use Rattle.arithmetic.proofs.walk.dot.Goals as goal

pub returns-then-n-eq0 : goal.returns-then-n-eq0
returns-then-n-eq0 c = dot-none c.args.x.now c.args.a c.args.y.now c.args.b c.args.n c.args.step c.if-n-eq0.true

pub add-requires : goal.add-requires
add-requires c = dot-ready c.args.x.now c.args.a c.args.y.now c.args.b c.args.n c.args.step c.requires (omega (arith, c.if-n-eq0.false))

pub returns : goal.returns
returns c = dot_end c.args.x.now c.args.a c.args.y.now c.args.b c.args.n c.args.step c.add.ensures
