use Rattle.capi.proofs.Coded.{gcd-answer}
use Rattle.capi.proofs.mausvioline_gcd.Goals as goal

pub code_of-requires : goal.code_of-requires
code_of-requires c =
    gcd-answer _ _ _ _ _ _ _ _ _ c.gcd.result _ _ _ c.gcd.ensures.given
