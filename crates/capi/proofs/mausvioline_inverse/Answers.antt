use Rattle.capi.proofs.Coded.{inverse-answer}
use Rattle.capi.proofs.mausvioline_inverse.Goals as goal

pub code_of-requires : goal.code_of-requires
code_of-requires c =
    inverse-answer _ _ _ _ _ _ _ _ c.inverse.result _ _ _ c.inverse.ensures.given
