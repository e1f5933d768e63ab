use Rattle.kernel.proofs.Giving.{slot_some}
use Rattle.kernel.proofs.gcds.found_answer.Goals as goal

pub coefficients-k-requires : goal.coefficients-k-requires
coefficients-k-requires c = slot_some _ _ _ _ _ _ c.in-Ok.is c.requires
