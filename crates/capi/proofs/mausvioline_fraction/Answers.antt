use Rattle.capi.proofs.Written.{fraction-answer}
use Rattle.capi.proofs.mausvioline_fraction.Goals as goal

pub code_of-code-requires : goal.code_of-code-requires
code_of-code-requires c =
    fraction-answer _ _ _ c.residue_of_fraction-found.result c.residue_of_fraction-found.ensures.given
