-- `lines::printing::inverse_line` meets its contract: an element and a line end behind `ok`. Assumes nothing.
use Rattle.lines.proofs.Slotted.{element_most}
use Rattle.tower.specs.Limits.{degrees_of}
use native.Mathlib.Omega.{arith}
use Rattle.lines.proofs.printing.inverse_line.Goals as goal

pub append-requires : goal.append-requires
append-requires c =
    let ok = c.opened-held.ensures in
    let element = c.put_element-told.ensures in
    let most = element_most (degrees_of c.args.e) c.args.i c.args.x.now in
    omega (arith, most, element.end, element.long, ok.end, ok.long, c.requires.room)
