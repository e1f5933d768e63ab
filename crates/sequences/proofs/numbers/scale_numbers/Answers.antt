use Rattle.sequences.proofs.NumberLaws.{times_numbers, times-number}
use Rattle.sequences.proofs.NumberRows.{in_words}
use Rattle.sequences.proofs.RowLoops.{scaling_asks, scaling-next, scaling_end}
use mathlib.Core.List.{[]}
use mathlib.Core.Path.{refl}
use native.Mathlib.Omega.{arith}
use Rattle.sequences.proofs.numbers.scale_numbers.Goals as goal

pub times_numbers-requires : goal.times_numbers-requires
times_numbers-requires c =
    let k = c.loop-k.k in
    times_numbers refl (scaling_asks c.requires c.loop-k.invariant c.loop-k-test.true (in_words [] c.args.c k))

pub loop-k-preserved : goal.loop-k-preserved
loop-k-preserved c =
    let here = in_words [] c.args.c c.loop-k.k in
    scaling-next c.requires c.loop-k.invariant c.loop-k-test.true here refl
    (times-number refl (scaling_asks c.requires c.loop-k.invariant c.loop-k-test.true here) c.times_numbers.ensures)

pub returns : goal.returns
returns c = scaling_end c.requires (omega (arith, c.loop-k-test.false)) c.loop-k.invariant
