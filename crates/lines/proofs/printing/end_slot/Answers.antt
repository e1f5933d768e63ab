-- `lines::printing::end_slot` meets its contract: a line end behind a slot, for which there is room. Assumes nothing.
use Rattle.lines.proofs.Slotted.{slot_most}
use Rattle.tower.specs.Limits.{degrees_of}
use native.Mathlib.Omega.{arith}
use Rattle.lines.proofs.printing.end_slot.Goals as goal

pub append-requires : goal.append-requires
append-requires c =
    let slot = c.put_slot-told.ensures in
    omega (arith, slot.long, slot.end, c.requires.room, slot_most (degrees_of c.args.e) c.args.i c.args.x.now)
