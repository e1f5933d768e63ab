-- One pair meets the contract of a walk. Assumes nothing.
use Rattle.arithmetic.proofs.Boxes.{pair_ready, pair_sum}
use Rattle.arithmetic.proofs.walk.PairWalk.add.Goals as goal

pub product_at-requires : goal.product_at-requires
product_at-requires c = pair_ready c.requires

pub returns : goal.returns
returns c = pair_sum c.args.x.now c.args.a c.args.y.now c.args.b c.product_at.ensures c.fold.ensures
