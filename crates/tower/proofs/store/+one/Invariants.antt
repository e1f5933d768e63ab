-- `store::one` meets its contract. The measure is the level.
use Rattle.tower.proofs.store.+one.Given as goal

abbrev pub decreases-one : goal.decreases-one
decreases-one l = l.i
