use Rattle.products.proofs.Units.{unit_end}
use Rattle.sequences.proofs.NumberRows.{dividing_asks, dividing_next}
use Rattle.sequences.proofs.RowLoops.{divide_asks, divide_done}
use native.Mathlib.Omega.{arith}
use Rattle.sequences.proofs.numbers.divide_numbers.Goals as goal

pub divide_at-requires : goal.divide_at-requires
divide_at-requires c =
    dividing_asks (divide_asks c.requires) c.loop-k-test.true c.loop-k.invariant

pub loop-k-preserved : goal.loop-k-preserved
loop-k-preserved c =
    dividing_next (divide_asks c.requires) c.loop-k-test.true c.loop-k.invariant c.divide_at.ensures

pub returns : goal.returns
returns c =
    divide_done (unit_end (divide_asks c.requires) (omega (arith, c.loop-k-test.false)) c.loop-k.invariant)
