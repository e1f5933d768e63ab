use Rattle.capi.proofs.Coded.{sum-answer}
use mathlib.Core.Bool.{false}
use Rattle.capi.proofs.mausvioline_sum.Goals as goal

pub code_of-requires : goal.code_of-requires
code_of-requires c =
    sum-answer false _ _ _ _ _ _ c.sum.result _ c.sum.ensures.given
