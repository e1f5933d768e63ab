use Rattle.residue.proofs.Laws.{reduced_twice}
use Rattle.residue.proofs.reduce.Goals as goal

pub returns : goal.returns
returns c = reduced_twice c.args.s.lo c.args.s.hi c.args.p c.requires.0.positive
