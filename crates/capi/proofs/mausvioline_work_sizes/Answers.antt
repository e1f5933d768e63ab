use Rattle.capi.proofs.Written.{sizes-answer}
use Rattle.capi.proofs.mausvioline_work_sizes.Goals as goal

pub code_of-code-requires : goal.code_of-code-requires
code_of-code-requires c =
    sizes-answer _ _ _ _ c.work_sizes-found.result c.work_sizes-found.ensures.given
