-- `lines::printing::division_line` meets its contract: the slots of quotient and remainder, with `rem` between them. Assumes nothing.
use Rattle.lines.proofs.Slotted.{slot_moved, slot_most}
use Rattle.tower.specs.Limits.{degrees_of}
use mathlib.Core.Path.{◌∙◌}
use native.Mathlib.Omega.{arith}
use Rattle.lines.proofs.printing.division_line.Goals as goal

pub append-named-requires : goal.append-named-requires
append-named-requires c =
    let ok = c.opened-held.ensures in
    let slot = c.put_slot-parted.ensures in
    let most = slot_most (degrees_of c.args.e) c.args.i c.args.q.now in
    omega (arith, most, slot.end, slot.long, ok.end, ok.long, c.requires.remainder.room)

pub end_slot-requires : goal.end_slot-requires
end_slot-requires c =
    let ok = c.opened-held.ensures in
    let slot = c.put_slot-parted.ensures in
    let rem = c.append-named.ensures in
    let most = slot_most (degrees_of c.args.e) c.args.i c.args.q.now in
    slot_moved c.requires.remainder (omega (arith, rem.end, most, slot.end, ok.end)) (rem.long ∙ slot.long ∙ ok.long)
