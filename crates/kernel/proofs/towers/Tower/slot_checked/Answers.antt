use Rattle.kernel.proofs.Order.{slot-first}
use Rattle.kernel.proofs.Shapes.{slot_unfit, slot-answered}
use Rattle.kernel.proofs.Viewing.{shape-some}
use Rattle.kernel.proofs.Told.{handed_on}
use Rattle.kernel.proofs.towers.Tower.slot_checked.Goals as goal

pub returns-in_err-s : goal.returns-in_err-s
returns-in_err-s c = handed_on _ _ _ _ _ c.from_residual.ensures.1 (slot-first _ _ _ _ _ _ c.in_err-s.ensures)

pub slot_length-requires : goal.slot_length-requires
slot_length-requires c = shape-some c.in_ok-s.s c.in_ok-s.ensures.1.known

pub returns-then-not-slot_length : goal.returns-then-not-slot_length
returns-then-not-slot_length c =
    slot_unfit c.in_ok-s.ensures.1 _ _ _ c.in_ok-s.ensures.0 c.if-not-slot_length.ensures

pub returns-then-not-slot_ok : goal.returns-then-not-slot_ok
returns-then-not-slot_ok c =
    slot-answered c.in_ok-s.ensures.1 _ _ c.modulus.ensures _ _ c.in_ok-s.ensures.0 c.if-not-slot_length.ensures _ c.if-not-slot_ok.ensures

pub returns : goal.returns
returns c =
    (slot-answered c.in_ok-s.ensures.1 _ _ c.modulus.ensures _ _ c.in_ok-s.ensures.0 c.if-not-slot_length.ensures _ c.if-not-slot_ok.ensures, c.in_ok-s.ensures.1)
