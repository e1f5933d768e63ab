use Rattle.capi.proofs.Coded.{sum-answer}
use mathlib.Core.Bool.{true}
use Rattle.capi.proofs.mausvioline_difference.Goals as goal

pub code_of-requires : goal.code_of-requires
code_of-requires c =
    sum-answer true _ _ _ _ _ _ c.difference.result _ c.difference.ensures.given
