-- `text::numbers::value` meets its contract. The invariant: the sum is the value of the digits passed (`Read`). Assumes nothing.
use Rattle.text.proofs.Numerals.{Read}
use Rattle.text.proofs.numbers.value.Given as goal

abbrev pub invariant-loop-b : goal.invariant-loop-b
invariant-loop-b l = Read l.most l.digits l.sum l.b-index
