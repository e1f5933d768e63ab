-- `arithmetic::rows::settle` meets its contract. Assumes nothing.
use Rattle.arithmetic.proofs.Tops.{settled}
use Rattle.arithmetic.proofs.rows.settle.Goals as goal

pub returns : goal.returns
returns c =
    settled c.args.i c.args.n c.args.s c.args.at c.args.w.now c.put_degree.new.w c.top_of-c.result c.top_of-c.ensures.0 c.put_degree.ensures
