-- `lines::keeping::nothing` meets its contract. Assumes nothing.
use Rattle.lines.proofs.States.{begun}
use Rattle.lines.proofs.keeping.nothing.Goals as goal

pub returns : goal.returns
returns c = begun
