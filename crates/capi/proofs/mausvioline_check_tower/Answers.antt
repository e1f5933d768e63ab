use Rattle.capi.proofs.Coded.{tower-answer}
use Rattle.capi.proofs.mausvioline_check_tower.Goals as goal

pub code_of-requires : goal.code_of-requires
code_of-requires c =
    tower-answer _ _ _ _ c.check_tower.result c.check_tower.ensures.checked
