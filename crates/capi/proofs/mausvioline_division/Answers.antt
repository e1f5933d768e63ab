use Rattle.capi.proofs.Coded.{division-answer}
use Rattle.capi.proofs.mausvioline_division.Goals as goal

pub code_of-requires : goal.code_of-requires
code_of-requires c =
    division-answer _ _ _ _ _ _ _ _ c.division.result _ _ _ c.division.ensures.given
