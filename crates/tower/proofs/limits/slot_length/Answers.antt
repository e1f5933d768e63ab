use Rattle.std.proofs.Common.{arith}
use Rattle.std.proofs.lemmas.Grind.{common_steps}
use Rattle.tower.specs.Limits.{slot_length}
use Rattle.tower.proofs.limits.slot_length.Goals as goal

pub returns-then-contains : goal.returns-then-contains
unfolding slot_length
returns-then-contains c = grind (arith, common_steps)

pub returns-else-contains : goal.returns-else-contains
unfolding slot_length
returns-else-contains c = grind (arith, common_steps)
