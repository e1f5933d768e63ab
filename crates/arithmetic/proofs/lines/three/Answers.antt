-- `arithmetic::lines::three` meets its contract. Assumes nothing.
use Rattle.arithmetic.proofs.Tiles.{sums-none, three-ready, three-sums}
use Rattle.arithmetic.proofs.lines.three.Goals as goal

pub returns-then-n-eq0 : goal.returns-then-n-eq0
returns-then-n-eq0 c = sums-none 2 c.args.x.now c.args.y.now c.args.n c.args.a c.args.b c.if-n-eq0.true

pub tile-requires : goal.tile-requires
tile-requires c = three-ready c.requires

pub returns : goal.returns
returns c = three-sums c.requires c.tile.ensures
