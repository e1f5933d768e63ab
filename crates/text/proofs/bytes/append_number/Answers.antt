-- `text::bytes::append_number` meets its contract: a text behind a text. Assumes nothing.
use Rattle.text.proofs.Decimals.{decimal_few}
use native.Mathlib.Omega.{arith}
use Rattle.text.proofs.bytes.append_number.Goals as goal

pub append_digits-requires : goal.append_digits-requires
append_digits-requires c =
    let parted = c.append-parted.ensures in
    omega (arith, decimal_few c.args.n c.ranges.n.fits, parted.long, parted.end)
