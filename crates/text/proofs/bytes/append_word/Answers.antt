-- `text::bytes::append_word` meets its contract, by the sign of the word. Assumes nothing.
use Prim.Native.Nat.{ℕ}
use Rattle.text.proofs.Decimals.{below_few}
use Rattle.text.specs.Text.{decimal}
use lib.IntN.{nat_abs}
use lib.ListN.{length}
use mathlib.Core.Path.{◌≡◌, ap}
use mir.Syntax.{w64}
use mir.Val.{to_z, of_z}
use native.Mathlib.Omega.{arith}
use Rattle.text.proofs.bytes.append_word.Goals as goal

pub append_digits-requires : goal.append_digits-requires
append_digits-requires c =
    let below = c.if-w-lt0.true in
    let signed = c.append-signed.ensures in
    let m : c.magnitude.result ≡ nat_abs (to_z w64 (of_z w64 c.args.w)) = c.magnitude.ensures in
    omega (arith, signed.long, signed.end, ap (λ (n : ℕ). length (decimal n)) m, below_few c.args.w c.ranges.w below)
