use Rattle.capi.proofs.Coded.{slot-answer}
use Rattle.capi.proofs.mausvioline_check_slot.Goals as goal

pub code_of-requires : goal.code_of-requires
code_of-requires c =
    slot-answer _ _ _ _ _ c.check_slot.result c.check_slot.ensures.checked
