-- `text::bytes::append_digits` meets its contract: what `io` gives are the digits. Assumes nothing.
use Rattle.text.proofs.Appends.{retold}
use Rattle.text.proofs.Decimals.{decimal-is}
use lib.ListN.{length}
use mathlib.Core.Path.{ap, ◌∙◌}
use native.Mathlib.Omega.{arith}
use Rattle.text.proofs.bytes.append_digits.Goals as goal

pub append-requires : goal.append-requires
append-requires c =
    let d = c.decimal-k in
    let n = c.ranges.n.fits in
    omega (arith, ap length (d.ensures.digits ∙ decimal-is _ _ n d.ensures.len))

pub returns : goal.returns
returns c =
    let d = c.decimal-k in
    let n = c.ranges.n.fits in
    retold (d.ensures.digits ∙ decimal-is _ _ n d.ensures.len) c.append.ensures
