-- `lines::printing::end_number` meets its contract: a line end behind a number, for which there is room. Assumes nothing.
use Rattle.text.proofs.Decimals.{decimal_few}
use native.Mathlib.Omega.{arith}
use Rattle.lines.proofs.printing.end_number.Goals as goal

pub append-requires : goal.append-requires
append-requires c =
    let told = c.append_number-told.ensures in
    omega (arith, told.long, told.end, decimal_few c.args.number c.ranges.number.fits)
