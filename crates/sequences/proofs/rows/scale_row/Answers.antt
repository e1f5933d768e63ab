use Rattle.products.proofs.Frames.{part-is}
use Rattle.sequences.proofs.NumberRows.{scale_numbers, scale-up}
use Rattle.sequences.proofs.RowLaws.{acting_size}
use Rattle.sequences.proofs.RowLoops.{scaling_asks, scaling-next, scaling_end}
use mathlib.Core.Path.{refl}
use native.Mathlib.Omega.{arith}
use Rattle.sequences.proofs.rows.scale_row.Goals as goal

pub scale_numbers-requires : goal.scale_numbers-requires
scale_numbers-requires c = scale_numbers c.if-i-eq0.true c.requires

pub returns-then-i-eq0 : goal.returns-then-i-eq0
returns-then-i-eq0 c =
    scale-up c.if-i-eq0.true c.requires c.scale_numbers.ensures

pub times-requires : goal.times-requires
times-requires c =
    let here = part-is c.part_at-at.result c.args.c c.loop-k.k c.size_at-s.result c.part_at-at.ensures refl (acting_size c.requires.acting c.size_at-s.ensures) in
    scaling_asks c.requires c.loop-k.invariant c.loop-k-test.true here

pub loop-k-preserved : goal.loop-k-preserved
loop-k-preserved c =
    let here = part-is c.part_at-at.result c.args.c c.loop-k.k c.size_at-s.result c.part_at-at.ensures refl (acting_size c.requires.acting c.size_at-s.ensures) in
    scaling-next c.requires c.loop-k.invariant c.loop-k-test.true here refl c.times.ensures

pub returns : goal.returns
returns c =
    scaling_end c.requires (omega (arith, c.loop-k-test.false)) c.loop-k.invariant
