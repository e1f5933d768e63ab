-- `arithmetic::lines::seven` meets its contract. Assumes nothing.
use Rattle.arithmetic.proofs.Tiles.{sums-none, seven-first, seven_half, seven_second, seven_third, seven-sums}
use Rattle.arithmetic.proofs.lines.seven.Goals as goal

pub returns-then-n-eq0 : goal.returns-then-n-eq0
returns-then-n-eq0 c = sums-none 4 c.args.x.now c.args.y.now c.args.n c.args.a c.args.b c.if-n-eq0.true

pub tile-requires : goal.tile-requires
tile-requires c = seven-first c.requires

pub tile-half-requires : goal.tile-half-requires
tile-half-requires c = seven_half c.requires c.tile.ensures

pub tile-requires-2 : goal.tile-requires-2
tile-requires-2 c = seven_second c.requires c.tile.ensures c.tile-half.ensures

pub tile-requires-3 : goal.tile-requires-3
tile-requires-3 c = seven_third c.requires c.tile.ensures c.tile-half.ensures c.tile-2.ensures

pub returns : goal.returns
returns c = seven-sums c.requires c.tile.ensures c.tile-half.ensures c.tile-2.ensures c.tile-3.ensures
