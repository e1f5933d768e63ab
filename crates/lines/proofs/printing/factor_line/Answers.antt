-- `lines::printing::factor_line` meets its contract: texts behind texts, for which there is room. Assumes nothing.
use Rattle.lines.proofs.Slotted.{opened-at, element_moved, factor_most}
use Rattle.lines.specs.Names.{said_factor}
use Rattle.text.proofs.Appends.{then, retold}
use Rattle.text.proofs.Decimals.{decimal_few}
use Rattle.tower.specs.Limits.{degrees_of}
use mathlib.Core.List.{append_assoc}
use mathlib.Core.Path.{◌∙◌}
use native.Mathlib.Omega.{arith}
use Rattle.lines.proofs.printing.factor_line.Goals as goal

pub put_factor-told-requires : goal.put_factor-told-requires
put_factor-told-requires c =
    let said = c.opened-said.ensures in
    let number = c.append_number-levelled.ensures in
    element_moved c.requires (omega (arith, number.end, opened-at c.args.name.now said_factor said, decimal_few c.args.level c.ranges.level.fits)) (number.long ∙ said.long)

pub append-requires : goal.append-requires
append-requires c =
    let said = c.opened-said.ensures in
    let number = c.append_number-levelled.ensures in
    let told = c.put_factor-told.ensures in
    let few = decimal_few c.args.level c.ranges.level.fits in
    let most = factor_most (degrees_of c.args.e) c.args.level c.args.f.now in
    omega (arith, most, told.end, told.long, few, number.end, number.long, opened-at c.args.name.now said_factor said, said.long, c.requires.room)

pub returns : goal.returns
returns c =
    let said = c.opened-said.ensures in
    let number = c.append_number-levelled.ensures in
    let told = c.put_factor-told.ensures in
    let end = c.append.ensures in
    retold (append_assoc c.args.name.now said_factor _) (then said (then number (then told end)))
